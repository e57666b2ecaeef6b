-- Where the releases of a file stand: after all tasks, each release in its own record.
use Prim.Native.Nat.{ℕ, ◌+◌, ◌≤◌}
use mathlib.Core.Path.{◌≡◌, sym, ap, ◌∙◌}
use mathlib.Core.List.{List}
use native.Mathlib.Omega.{arith}
use native.Mathlib.Nat.{add-zero}
use lib.ListN.{length, get_or, drop, length-drop}
use lib.Seq.{drop-drop, get_or-drop}
use Rattle.model.specs.Tasks.{Release}
use Rattle.fileformat.specs.Records.{Width, kind_of, Record, release_record, release_from, release_size, record_of}
use Rattle.fileformat.proofs.RecordLaws.{Shape, is_broken, is_wrong_mark, is_task_lem, is_release, is_charge, is_end, shape}

-- bytes that begin with a release record
record Begins (w : Width) (r : Release) (l : List ℕ) : Type 0 where
  room : release_size w ≤ length l
  kind : get_or l 0 0 ≡ kind_of w
  body : r ≡ release_from w (drop 1 l)

begins : (w : Width) (r : Release) (l : List ℕ) (q : Record) → Shape l q → q ≡ release_record w r → Begins w r l
begins w r l q (is_broken f n) e = let z : ◌≡◌ {A = ℕ} 0 1 = cc in absurd (omega arith)
begins w r l q (is_wrong_mark f) e = let z : ◌≡◌ {A = ℕ} 0 1 = cc in absurd (omega arith)
begins w r l q (is_task_lem low m h k) e = let z : ◌≡◌ {A = ℕ} 0 1 = cc in absurd (omega arith)
begins w r l q (is_release v m h) e =
    let s : v ≡ w = cc in
    let d : release_from v m ≡ r = cc in
    record { room = omega (arith, ap release_size s); kind = ap kind_of s; body = sym d ∙ ap (λ x. release_from x m) s }
begins w r l q (is_charge m h) e = let z : ◌≡◌ {A = ℕ} 0 1 = cc in absurd (omega arith)
begins w r l q (is_end m) e = let z : ◌≡◌ {A = ℕ} 0 1 = cc in absurd (omega arith)

-- a release record at an offset: it ends within the file, its kind byte stands there, and its release is that of the bytes after the kind
pub record Placed (f : List ℕ) (at : ℕ) (w : Width) (r : Release) : Type 0 where
  pub room : at + release_size w ≤ length f
  pub kind : get_or f at 0 ≡ kind_of w
  pub body : r ≡ release_from w (drop (at + 1) f)

pub placed : (f : List ℕ) (at : ℕ) (w : Width) (r : Release) → release_record w r ≡ record_of (drop at f) → Placed f at w r
placed f at w r e =
    let b = begins w r (drop at f) (record_of (drop at f)) (shape (drop at f)) (sym e) in
    record {
      room = omega (arith, b.room, length-drop at f);
      kind = ap (λ i. get_or f i 0) (sym (add-zero at)) ∙ sym (get_or-drop at f 0 0) ∙ b.kind;
      body = b.body ∙ ap (release_from w) (drop-drop 1 at f);
    }
