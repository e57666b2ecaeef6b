-- The place of the start, the ticks of the windows before it, and the first number tried from it.
use Rattle.demand.proofs.SeekColumnLaws.{begins_at}
use Rattle.demand.proofs.start_at.Goals as goal

pub reach_from-t-requires : goal.reach_from-t-requires
reach_from-t-requires c =
    let may = c.requires in
    (record {
      supplies = may.supplies;
      begins = begins_at _ _ _ _ _ may.supplies.columns _ _ _ c.start_of-at.ensures c.within-before.ensures;
      d_le_max_tick = may.need_le_max_tick;
    })

pub returns : goal.returns
returns c =
    let may = c.requires in
    record {
      begins = begins_at _ _ _ _ _ may.supplies.columns _ _ _ c.start_of-at.ensures c.within-before.ensures;
      place = c.start_of-at.ensures;
      reach = rw c.start_of-at.ensures at c.reach_from-t.ensures;
    }
