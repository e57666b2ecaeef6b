-- Laws of written lines.
use Prim.Native.Nat.{ℕ, ◌+◌, ◌*◌, ◌≤◌}
use mathlib.Core.Path.{◌≡◌, refl, ◌∙◌}
use mathlib.Core.Bool.{Bool, true, false}
use mathlib.Core.List.{List, ◌++◌}
use native.Mathlib.Omega.{arith}
use lib.ListN.{length}
use native.Mathlib.Numerals.{add-one}
use native.Mathlib.Nat.{mul-add}
use Rattle.text.specs.Text.{Put, PutField, field, lines}
use Rattle.text.proofs.TextLaws.{put_append, put_nothing, put_length}
use Rattle.model.specs.Tasks.{Tasks}
use Rattle.model.specs.Choice.{Scope, scope_in}
use Rattle.report.specs.Report.{choice_fields, choice_line, choice_header, fits_line, high_only_line, last_line, choice_text, run_fields, run_line, run_header, run_text, refused_word, at_word, refusal_text}
use Rattle.report.specs.PutLine.{PutLine}

-- a field, and what follows it
pub then
    : (w : ℕ) (l : List ℕ) (at n end : ℕ) (m : List ℕ) (r : ℕ) (b k : List ℕ) (t : ℕ)
    → PutField w l at n end m r → Put m r b k t → Put l at (field n end ++ b) k t
then w l at n end m r b k t p q = put_append l at (field n end) m r b k t p.put q

-- the line of a task, field after field
pub task_line
    : (x0 x1 x2 x3 x4 x5 x6 : ℕ) (m0 m1 m2 m3 m4 m5 m6 m7 : List ℕ) (r0 r1 r2 r3 r4 r5 r6 r7 : ℕ)
    → PutField 11 m0 r0 x0 32 m1 r1
    → PutField 11 m1 r1 x1 32 m2 r2
    → PutField 11 m2 r2 x2 32 m3 r3
    → PutField 11 m3 r3 x3 32 m4 r4
    → PutField 11 m4 r4 x4 32 m5 r5
    → PutField 11 m5 r5 x5 32 m6 r6
    → PutField 11 m6 r6 x6 10 m7 r7
    → PutLine 77 m0 r0 (choice_fields x0 x1 x2 x3 x4 x5 x6) m7 r7
unfolding choice_fields
task_line x0 x1 x2 x3 x4 x5 x6 m0 m1 m2 m3 m4 m5 m6 m7 r0 r1 r2 r3 r4 r5 r6 r7 p0 p1 p2 p3 p4 p5 p6 = record {
  put =
      then _ m0 r0 x0 32 m1 r1 _ m7 r7 p0
      (then _ m1 r1 x1 32 m2 r2 _ m7 r7 p1
      (then _ m2 r2 x2 32 m3 r3 _ m7 r7 p2 (then _ m3 r3 x3 32 m4 r4 _ m7 r7 p3 (then _ m4 r4 x4 32 m5 r5 _ m7 r7 p4 (then _ m5 r5 x5 32 m6 r6 _ m7 r7 p5 p6.put)))));
  small = omega arith;
  long = omega arith;
}

-- the line of a release, field after field
pub job_line_lem
    : (x0 x1 x2 x3 x4 x5 : ℕ) (m0 m1 m2 m3 m4 m5 m6 : List ℕ) (r0 r1 r2 r3 r4 r5 r6 : ℕ)
    → PutField 11 m0 r0 x0 32 m1 r1
    → PutField 11 m1 r1 x1 32 m2 r2
    → PutField 21 m2 r2 x2 32 m3 r3
    → PutField 21 m3 r3 x3 32 m4 r4
    → PutField 21 m4 r4 x4 32 m5 r5
    → PutField 21 m5 r5 x5 10 m6 r6
    → PutLine 106 m0 r0 (run_fields x0 x1 x2 x3 x4 x5) m6 r6
unfolding run_fields
job_line_lem x0 x1 x2 x3 x4 x5 m0 m1 m2 m3 m4 m5 m6 r0 r1 r2 r3 r4 r5 r6 p0 p1 p2 p3 p4 p5 = record {
  put =
      then _ m0 r0 x0 32 m1 r1 _ m6 r6 p0
      (then _ m1 r1 x1 32 m2 r2 _ m6 r6 p1 (then _ m2 r2 x2 32 m3 r3 _ m6 r6 p2 (then _ m3 r3 x3 32 m4 r4 _ m6 r6 p3 (then _ m4 r4 x4 32 m5 r5 _ m6 r6 p4 p5.put))));
  small = omega arith;
  long = omega arith;
}

-- the line of a refusal
pub refusal_line
    : (n p : ℕ) (l m1 : List ℕ) (r1 : ℕ) (m2 : List ℕ) (r2 : ℕ) (m3 : List ℕ) (r3 : ℕ) (m4 : List ℕ) (r4 : ℕ)
    → Put l 0 refused_word m1 r1 → PutField 21 m1 r1 n 32 m2 r2 → Put m2 r2 at_word m3 r3 → PutField 21 m3 r3 p 10 m4 r4
    → PutLine 64 l 0 (refusal_text n p) m4 r4
unfolding refusal_text
refusal_line n p l m1 r1 m2 r2 m3 r3 m4 r4 a b c d = record {
  put =
      put_append l 0 refused_word m1 r1 _ m4 r4 a
      (then _ m1 r1 n 32 m2 r2 _ m4 r4 b (put_append m2 r2 at_word m3 r3 (field p 10) m4 r4 c d.put));
  small = omega (arith, a.next, c.next);
  long = d.long ∙ put_length m2 r2 at_word m3 r3 c ∙ b.long ∙ put_length l 0 refused_word m1 r1 a;
}

-- the same where the number has at most 10 digits
pub narrow_refusal_line
    : (n p : ℕ) (l m1 : List ℕ) (r1 : ℕ) (m2 : List ℕ) (r2 : ℕ) (m3 : List ℕ) (r3 : ℕ) (m4 : List ℕ) (r4 : ℕ)
    → Put l 0 refused_word m1 r1 → PutField 11 m1 r1 n 32 m2 r2 → Put m2 r2 at_word m3 r3 → PutField 21 m3 r3 p 10 m4 r4
    → PutLine 64 l 0 (refusal_text n p) m4 r4
narrow_refusal_line n p l m1 r1 m2 r2 m3 r3 m4 r4 a b c d =
    refusal_line n p l m1 r1 m2 r2 m3 r3 m4 r4 a (record { put = b.put; small = omega (arith, b.small); long = b.long }) c d

-- a text of at most n bytes is a line of at most n bytes
pub as_line : (n : ℕ) (l : List ℕ) (at : ℕ) (t m : List ℕ) (r : ℕ) → length t ≤ n → Put l at t m r → PutLine n l at t m r
as_line n l at t m r h p = record { put = p; small = omega (arith, p.next); long = put_length l at t m r p }

-- the last line of a choice is that of its scope
pub high_last : (b : Bool) (l : List ℕ) (at : ℕ) (m : List ℕ) (r : ℕ) → b ≡ true → Put l at high_only_line m r → PutLine 10 l at (last_line (scope_in b)) m r
unfolding last_line
high_last b l at m r e p = rw e (as_line 10 l at high_only_line m r (omega arith) p)

pub plain_last : (b : Bool) (l : List ℕ) (at : ℕ) (m : List ℕ) (r : ℕ) → b ≡ false → Put l at fits_line m r → PutLine 10 l at (last_line (scope_in b)) m r
unfolding last_line
plain_last b l at m r e p = rw e (as_line 10 l at fits_line m r (omega arith) p)

-- the text of a choice: header, lines, the last line
pub choice_page
    : (e : Scope) (s : Tasks) (ks ws l m1 : List ℕ) (r1 : ℕ) (m2 : List ℕ) (r2 : ℕ) (m3 : List ℕ) (r3 : ℕ)
    → Put l 0 choice_header m1 r1 → PutLine 2464 m1 r1 (lines (choice_line s ks ws) s.count) m2 r2 → PutLine 10 m2 r2 (last_line e) m3 r3
    → PutLine 2560 l 0 (choice_text e s ks ws) m3 r3
unfolding choice_text
choice_page e s ks ws l m1 r1 m2 r2 m3 r3 a b c = record {
  put = put_append l 0 choice_header m1 r1 _ m3 r3 a (put_append m1 r1 (lines (choice_line s ks ws) s.count) m2 r2 (last_line e) m3 r3 b.put c.put);
  small = omega (arith, a.next);
  long = c.long ∙ b.long ∙ put_length l 0 choice_header m1 r1 a;
}

-- the text of a run: header, lines
pub run_page
    : (n : ℕ) (ta ti re fi l m1 : List ℕ) (r1 : ℕ) (m2 : List ℕ) (r2 : ℕ)
    → Put l 0 run_header m1 r1 → PutLine 108544 m1 r1 (lines (run_line ta ti re fi) n) m2 r2 → PutLine 108608 l 0 (run_text n ta ti re fi) m2 r2
unfolding run_text
run_page n ta ti re fi l m1 r1 m2 r2 a b = record {
  put = put_append l 0 run_header m1 r1 _ m2 r2 a b.put;
  small = omega (arith, a.next);
  long = b.long ∙ put_length l 0 run_header m1 r1 a;
}

-- a bound may be wider
pub wider : (a b : ℕ) (l : List ℕ) (at : ℕ) (t m : List ℕ) (r : ℕ) → a ≤ b → PutLine a l at t m r → PutLine b l at t m r
wider a b l at t m r h p = record { put = p.put; small = omega arith; long = p.long }

-- lines of at most b bytes each were written, n of them
pub record PutLines (line : ℕ → List ℕ) (b n : ℕ) (held : List ℕ) (at : ℕ) (now : List ℕ) (r : ℕ) : Type 0 where
  pub put : Put held at (lines line n) now r
  pub small : r ≤ at + b * n
  pub long : length now ≡ length held

pub lines_none : (line : ℕ → List ℕ) (b : ℕ) (l : List ℕ) (at : ℕ) → PutLines line b 0 l at l at
unfolding lines
lines_none line b l at = record { put = put_nothing l at; small = omega arith; long = refl }

pub lines_next
    : (line : ℕ → List ℕ) (b n : ℕ) (l : List ℕ) (at : ℕ) (m : List ℕ) (r : ℕ) (k : List ℕ) (t : ℕ)
    → PutLines line b n l at m r → PutLine b m r (line n) k t → PutLines line b (n + 1) l at k t
unfolding lines
lines_next line b n l at m r k t p q = record {
  put = rw (add-one, lines) (put_append l at (lines line n) m r (line n) k t p.put q.put);
  small = omega (arith, mul-add b n 1);
  long = q.long ∙ p.long;
}

pub lines_all
    : (line : ℕ → List ℕ) (b n top : ℕ) (l : List ℕ) (at : ℕ) (m : List ℕ) (r : ℕ)
    → PutLines line b n l at m r → b * n ≤ top → PutLine top l at (lines line n) m r
lines_all line b n top l at m r p h = record { put = p.put; small = omega arith; long = p.long }
