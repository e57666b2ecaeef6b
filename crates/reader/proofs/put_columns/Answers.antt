-- The short records, then the others.
use Rattle.reader.proofs.ReadColumnLaws.{putting_here, putting_then}
use Rattle.reader.proofs.put_columns.Goals as goal

pub put_shorts-shorts-requires : goal.put_shorts-shorts-requires
put_shorts-shorts-requires c = c.requires

pub put_rest-requires : goal.put_rest-requires
put_rest-requires c = putting_here _ _ _ _ _ _ _ _ _ _ _ c.put_shorts-shorts.ensures

pub returns : goal.returns
returns c = putting_then _ _ _ _ _ _ _ _ _ _ _ c.put_shorts-shorts.ensures _ _ _ c.put_rest.ensures
