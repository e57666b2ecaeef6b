-- What a line so far stands for: the bytes of the line that were taken.
use Prim.Native.Nat.{ℕ, suc, ◌+◌, ◌*◌, ◌-◌, ◌≤◌, ◌<◌, min}
use mathlib.Core.Path.{◌≡◌, refl, sym, ap, ap₂, subst, ◌∙◌}
use mathlib.Core.Bool.{Bool, true, false, ◌&&◌, and-false}
use mathlib.Core.List.{List, [], ◌∷◌, ◌++◌, append-nil, append_assoc}
use native.Mathlib.Omega.{arith}
use lib.Dec.{eqb, ltb}
use lib.ListN.{length, get_or, length-append, get_or-append}
use lib.Seq.{append_snoc, get_or-append_seam}
use borrow.Author.Tests.{lt-ltb, eq-eqb, ne_eqb, eqb-true, eqb-false, ltb-true, ltb-false}
use Rattle.text.specs.Text.{line_feed}
use Rattle.taskset.specs.declared.Task.{Task}
use Rattle.textformat.specs.Numerals.{is_digit, is_numeral, value}
use Rattle.textformat.specs.Lines.{comma, fields_from, fields_of}
use Rattle.textformat.specs.TextSheet.{all_numerals, is_four, task_of}
use Rattle.textformat.specs.TextTrips.{cut_at}
use Rattle.textformat.proofs.NumeralLaws.{digit_of, value_one, value_snoc, numeral_one, numeral_snoc, zero_alone, numeral_no_digit, numeral_leading}
use Rattle.textformat.proofs.LineLaws.{field_ends, field_stays}
use Rattle.loader.specs.declared.LineSoFar.{LineSoFar}
use Rattle.loader.specs.declared.Taken.{Taken}
use Rattle.loader.specs.declared.Taken.TheVariants.{Goes, Ends, Broken}
use Rattle.loader.proofs.TakenLaws.{taken_leading, taken_digit, taken_early, taken_comma_over, taken_comma, taken_other, taken_short, taken_end}
use Rattle.loader.specs.Loader.{cap, no_line, with_digit, with_comma, task_so_far, after_zero, taken, begun}

-- the digits of the present field, and the number that the loader keeps of them
pub data Present : Bool → ℕ → List ℕ → Type 0 where
  nothing : Present false 0 []
  number : (g : List ℕ) → is_numeral g ≡ true → (v : ℕ) → v ≡ min cap (value g) → Present true v g

-- whether there is a byte
unfoldable pub some_byte : List ℕ → Bool
some_byte [] = false
some_byte (b ∷ l) = true

-- the number of the field k places before the end of a list of fields
abbrev kept : List (List ℕ) → ℕ → ℕ
kept done k = min cap (value (get_or done (length done - suc k) []))

kept_last : (done : List (List ℕ)) (g : List ℕ) → min cap (value g) ≡ kept (done ++ (g ∷ [])) 0
kept_last done g =
    let e : length (done ++ (g ∷ [])) - 1 ≡ length done = omega (arith, length-append done (g ∷ [])) in
    ap (λ x. min cap (value x)) (sym (get_or-append_seam done g [] []) ∙ ap (λ i. get_or (done ++ (g ∷ [])) i []) (sym e))

kept_more : (done : List (List ℕ)) (g : List ℕ) (k : ℕ) → suc k ≤ length done → kept done k ≡ kept (done ++ (g ∷ [])) (suc k)
kept_more done g k h =
    let e : length (done ++ (g ∷ [])) - suc (suc k) ≡ length done - suc k = omega (arith, length-append done (g ∷ [])) in
    ap (λ x. min cap (value x)) (sym (get_or-append done (g ∷ []) [] (length done - suc k) (omega arith)) ∙ ap (λ i. get_or (done ++ (g ∷ [])) i []) (sym e))

-- a line so far after the bytes p: the fields before the present one, and the present one
pub record Seen (m : LineSoFar) (p : List ℕ) : Type 0 where
  pub done : List (List ℕ)
  pub present : List ℕ
  pub fields : (l : List ℕ) → fields_of (p ++ l) ≡ done ++ fields_from present l
  pub numerals : all_numerals done ≡ true
  pub commas : m.commas ≡ length done
  pub few : length done ≤ 3
  pub now : Present m.digit m.value present
  pub third : 1 ≤ length done → m.third ≡ kept done 0
  pub second : 2 ≤ length done → m.second ≡ kept done 1
  pub first : 3 ≤ length done → m.first ≡ kept done 2
  pub begins : begun m ≡ some_byte p

pub seen_nothing : Seen no_line []
unfolding fields_of all_numerals begun some_byte
seen_nothing =
    record {
      done = [];
      present = [];
      fields = λ l. refl;
      numerals = refl;
      commas = refl;
      few = omega arith;
      now = nothing;
      third = λ h. absurd (omega arith);
      second = λ h. absurd (omega arith);
      first = λ h. absurd (omega arith);
      begins = refl;
    }

-- a byte at the end
pub some_last : (p : List ℕ) (b : ℕ) → some_byte (p ++ (b ∷ [])) ≡ true
unfolding some_byte
some_last [] b = refl
some_last (c ∷ p) b = refl

-- fields one after the other are numbers where both parts are
all_append : (a b : List (List ℕ)) → all_numerals (a ++ b) ≡ (all_numerals a && all_numerals b)
unfolding all_numerals
all_append [] b = refl
all_append (f ∷ a) b = go (is_numeral f) (all_append a b)
  where
    go : (x : Bool) → all_numerals (a ++ b) ≡ (all_numerals a && all_numerals b) → (x && all_numerals (a ++ b)) ≡ ((x && all_numerals a) && all_numerals b)
    go true h = h
    go false h = refl

all_bad : (a : List (List ℕ)) (f : List ℕ) (l : List (List ℕ)) → is_numeral f ≡ false → all_numerals (a ++ (f ∷ l)) ≡ false
unfolding all_numerals
all_bad a f l e = all_append a (f ∷ l) ∙ rw e (and-false (all_numerals a))

-- a field that is no number, or another number of fields: another form
bad_field : (a : List (List ℕ)) (f : List ℕ) (l : List (List ℕ)) → is_numeral f ≡ false → is_four (a ++ (f ∷ l)) ≡ false
unfolding is_four
bad_field a f l e = rw (all_bad a f l e) (and-false (eqb (length (a ++ (f ∷ l))) 4))

bad_count : (a : List (List ℕ)) → (length a ≡ 4 → ⊥) → is_four a ≡ false
unfolding is_four
bad_count a h = rw (ne_eqb (length a) 4 h)

-- the first field begins with the bytes before
record Begins (c : List ℕ) (l : List ℕ) : Type 0 where
  rest : List ℕ
  more : List (List ℕ)
  is : fields_from c l ≡ (c ++ rest) ∷ more

begins_with : (c l : List ℕ) → Begins c l
unfolding fields_from
begins_with c [] = record { rest = []; more = []; is = ap (λ x. x ∷ []) (sym (append-nil c)) }
begins_with c (b ∷ l) = go (eqb b comma) refl (begins_with (c ++ (b ∷ [])) l)
  where
    go : (x : Bool) → eqb b comma ≡ x → Begins (c ++ (b ∷ [])) l → Begins c (b ∷ l)
    go true e h = record { rest = []; more = fields_from [] l; is = field_ends c b l e ∙ ap (λ x. x ∷ fields_from [] l) (sym (append-nil c)) }
    go false e h = record { rest = b ∷ h.rest; more = h.more; is = field_stays c b l e ∙ h.is ∙ ap (λ x. x ∷ h.more) (append_assoc c (b ∷ []) h.rest) }

-- a line that begins with a present field that can be no number
bad_present : (m : LineSoFar) (p : List ℕ) (s : Seen m p) (b : ℕ) (l : List ℕ) → eqb b comma ≡ false
    → ((r : List ℕ) → is_numeral (s.present ++ (b ∷ r)) ≡ false) → is_four (fields_of (p ++ (b ∷ l))) ≡ false
bad_present m p s b l e h =
    let w = begins_with (s.present ++ (b ∷ [])) l in
    ap is_four (s.fields (b ∷ l) ∙ ap (λ x. s.done ++ x) (field_stays s.present b l e ∙ w.is))
    ∙ bad_field s.done _ w.more (ap is_numeral (append_assoc s.present (b ∷ []) w.rest) ∙ h w.rest)

-- the digits of a field
present_number : (d : Bool) (v : ℕ) (g : List ℕ) → Present d v g → d ≡ true → (is_numeral g ≡ true) × (v ≡ min cap (value g))
present_number _ _ _ nothing h = let z : ◌≡◌ {A = ℕ} 0 1 = cc in absurd (omega arith)
present_number _ _ _ (number g h v e) z = (h, e)

present_none : (d : Bool) (v : ℕ) (g : List ℕ) → Present d v g → d ≡ false → is_numeral g ≡ false
unfolding is_numeral
present_none _ _ _ nothing h = refl
present_none _ _ _ (number g h v e) z = let y : ◌≡◌ {A = ℕ} 0 1 = cc in absurd (omega arith)

-- one digit more counts on from the number that was kept
capped_more : (v n d : ℕ) → v ≡ min cap n → min cap (10 * v + d) ≡ min cap (10 * n + d)
capped_more v n d e = omega arith

present_digit
    : (d : Bool) (v : ℕ) (g : List ℕ) (b : ℕ) → Present d v g → (d && eqb v 0) ≡ false → is_digit b ≡ true → Present true (min cap (10 * v + (b - 48))) (g ++ (b ∷ []))
present_digit _ _ _ b nothing z h =
    number (b ∷ []) (numeral_one b h) (min cap (10 * 0 + (b - 48))) (ap (min cap) (let e : 10 * 0 + (b - 48) ≡ b - 48 = omega arith in e ∙ sym (value_one b)))
present_digit _ _ _ b (number g n v e) z h =
    let f : v ≡ 0 → ⊥ = eqb-false v 0 z in
    number (g ++ (b ∷ [])) (numeral_snoc g b n (omega arith) h) (min cap (10 * v + (b - 48)))
    (capped_more v (value g) (b - 48) e ∙ ap (min cap) (sym (value_snoc g b)))

-- a digit after a lone 0
present_leading : (d : Bool) (v : ℕ) (g : List ℕ) (b : ℕ) (r : List ℕ) → Present d v g → (d && eqb v 0) ≡ true → is_numeral (g ++ (b ∷ r)) ≡ false
present_leading _ _ _ b r nothing z = let y : ◌≡◌ {A = ℕ} 0 1 = cc in absurd (omega arith)
present_leading _ _ _ b r (number g n v e) z =
    let f : v ≡ 0 = eqb-true v 0 z in
    ap (λ x. is_numeral (x ++ (b ∷ r))) (zero_alone g n (omega arith)) ∙ numeral_leading b r

-- a digit more
seen_digit : (m : LineSoFar) (p : List ℕ) (b : ℕ) → Seen m p → is_digit b ≡ true → eqb b comma ≡ false → after_zero m ≡ false → Seen (with_digit m (b - 48)) (p ++ (b ∷ []))
unfolding with_digit after_zero begun
seen_digit m p b s h e z =
    record {
      done = s.done;
      present = s.present ++ (b ∷ []);
      fields = λ l. ap fields_of (append_snoc p b l) ∙ s.fields (b ∷ l) ∙ ap (λ x. s.done ++ x) (field_stays s.present b l e);
      numerals = s.numerals;
      commas = s.commas;
      few = s.few;
      now = present_digit m.digit m.value s.present b s.now z h;
      third = s.third;
      second = s.second;
      first = s.first;
      begins = sym (some_last p b);
    }

-- a comma after a number
seen_comma : (m : LineSoFar) (p : List ℕ) (b : ℕ) → Seen m p → eqb b comma ≡ true → m.digit ≡ true → m.commas < 3 → Seen (with_comma m) (p ++ (b ∷ []))
unfolding with_comma all_numerals begun
seen_comma m p b s e d c =
    let n = present_number m.digit m.value s.present s.now d in
    let k = length-append s.done (s.present ∷ []) in
    record {
      done = s.done ++ (s.present ∷ []);
      present = [];
      fields =
          λ l. ap fields_of (append_snoc p b l) ∙ s.fields (b ∷ l) ∙ ap (λ x. s.done ++ x) (field_ends s.present b l e)
          ∙ sym (append_snoc s.done s.present (fields_from [] l));
      numerals = all_append s.done (s.present ∷ []) ∙ rw (s.numerals, n.0);
      commas = omega (arith, s.commas, k);
      few = omega (arith, s.commas, k);
      now = nothing;
      third = λ h. n.1 ∙ kept_last s.done s.present;
      second = λ h. s.third (omega (arith, k)) ∙ kept_more s.done s.present 0 (omega (arith, k));
      first = λ h. s.second (omega (arith, k)) ∙ kept_more s.done s.present 1 (omega (arith, k));
      begins = lt-ltb 0 (m.commas + 1) (omega arith) ∙ sym (some_last p b);
    }

-- what a byte that is no line feed does to the line
pub data Steps (p : List ℕ) (b : ℕ) : Taken → Type 0 where
  goes : (m : LineSoFar) → Seen m (p ++ (b ∷ [])) → Steps p b (Goes m)
  breaks : ((l : List ℕ) → is_four (fields_of (p ++ (b ∷ l))) ≡ false) → Steps p b Broken

-- a digit is no comma
digit_alone : (b : ℕ) → is_digit b ≡ true → eqb b comma ≡ false
digit_alone b h = let d = digit_of b h in ne_eqb b comma (λ e. omega (arith, d.0))

-- a comma ends the present field
after_comma : (m : LineSoFar) (p : List ℕ) (s : Seen m p) (b : ℕ) (l : List ℕ) → eqb b comma ≡ true → fields_of (p ++ (b ∷ l)) ≡ s.done ++ (s.present ∷ fields_from [] l)
after_comma m p s b l e = s.fields (b ∷ l) ∙ ap (λ x. s.done ++ x) (field_ends s.present b l e)

-- a fifth field
too_many : (done : List (List ℕ)) (g l : List ℕ) → 3 ≤ length done → is_four (done ++ (g ∷ fields_from [] l)) ≡ false
too_many done g l h =
    let w = begins_with [] l in
    let k = length-append done (g ∷ fields_from [] l) in
    let n : length (fields_from [] l) ≡ suc (length w.more) = ap length w.is in
    bad_count _ (λ e. omega (arith, k, n))

pub seen_steps : (m : LineSoFar) (p : List ℕ) (b : ℕ) → Seen m p → (b ≡ line_feed → ⊥) → Steps p b (taken m b)
unfolding after_zero
seen_steps m p b s f = go (is_digit b) refl
  where
    zero : is_digit b ≡ true → (x : Bool) → after_zero m ≡ x → Steps p b (taken m b)
    zero d true z =
        subst (Steps p b) (taken_leading m b d z)
        (breaks (λ l. bad_present m p s b l (digit_alone b d) (λ r. present_leading m.digit m.value s.present b r s.now z)))
    zero d false z = subst (Steps p b) (taken_digit m b d z) (goes _ (seen_digit m p b s d (digit_alone b d) z))

    over : is_digit b ≡ false → eqb b comma ≡ true → m.digit ≡ true → (x : Bool) → ltb m.commas 3 ≡ x → Steps p b (taken m b)
    over d e n true h = subst (Steps p b) (taken_comma m b d (eqb-true b comma e) n (ltb-true _ _ h)) (goes _ (seen_comma m p b s e n (ltb-true _ _ h)))
    over d e n false h =
        subst (Steps p b) (taken_comma_over m b d (eqb-true b comma e) (ltb-false _ _ h))
        (breaks (λ l. ap is_four (after_comma m p s b l e) ∙ too_many s.done s.present l (omega (arith, s.commas, ltb-false m.commas 3 h))))

    early : is_digit b ≡ false → eqb b comma ≡ true → (x : Bool) → m.digit ≡ x → Steps p b (taken m b)
    early d e true n = over d e n (ltb m.commas 3) refl
    early d e false n =
        subst (Steps p b) (taken_early m b d n)
        (breaks (λ l. ap is_four (after_comma m p s b l e) ∙ bad_field s.done s.present _ (present_none m.digit m.value s.present s.now n)))

    other : is_digit b ≡ false → (x : Bool) → eqb b comma ≡ x → Steps p b (taken m b)
    other d true e = early d e m.digit refl
    other d false e =
        subst (Steps p b) (taken_other m b d (eqb-false b comma e) f) (breaks (λ l. bad_present m p s b l e (λ r. numeral_no_digit s.present r b d)))

    go : (x : Bool) → is_digit b ≡ x → Steps p b (taken m b)
    go true d = zero d (after_zero m) refl
    go false d = other d (eqb b comma) refl

-- what a line feed does to the line: the task has the numbers kept, cut at the cap
pub data Closes (p : List ℕ) : Taken → Type 0 where
  forms : (t : Task) → is_four (fields_of p) ≡ true → t ≡ cut_at cap (task_of (fields_of p)) → Closes p (Ends t)
  fails : is_four (fields_of p) ≡ false → Closes p Broken

-- the fields of the line as it stands
all_fields : (m : LineSoFar) (p : List ℕ) (s : Seen m p) → fields_of p ≡ s.done ++ (s.present ∷ [])
unfolding fields_from
all_fields m p s = ap fields_of (sym (append-nil p)) ∙ s.fields []

-- with three commas and a number after them they are four numbers, and the task is that of the numbers kept
four_fields : (m : LineSoFar) (p : List ℕ) (s : Seen m p) → m.digit ≡ true → m.commas ≡ 3 → is_four (fields_of p) ≡ true
unfolding is_four all_numerals
four_fields m p s n c =
    let k = length-append s.done (s.present ∷ []) in
    let a : all_numerals (s.done ++ (s.present ∷ [])) ≡ true =
    all_append s.done (s.present ∷ []) ∙ rw (s.numerals, (present_number m.digit m.value s.present s.now n).0) in
    ap is_four (all_fields m p s) ∙ rw (eq-eqb (length (s.done ++ (s.present ∷ []))) 4 (omega (arith, k, s.commas)), a)

kept_field
    : (m : LineSoFar) (p : List ℕ) (s : Seen m p) (i k : ℕ) → i + suc k ≡ length s.done → kept s.done k ≡ min cap (value (get_or (fields_of p) i []))
kept_field m p s i k h =
    let e : length s.done - suc k ≡ i = omega arith in
    ap (λ x. min cap (value x))
    (ap (λ j. get_or s.done j []) e ∙ sym (get_or-append s.done (s.present ∷ []) [] i (omega arith)) ∙ ap (λ x. get_or x i []) (sym (all_fields m p s)))

last_field : (m : LineSoFar) (p : List ℕ) (s : Seen m p) (i : ℕ) → i ≡ length s.done → s.present ≡ get_or (fields_of p) i []
last_field m p s i h =
    sym (get_or-append_seam s.done s.present [] []) ∙ ap₂ (λ j x. get_or x j []) (sym h) (sym (all_fields m p s))

-- a high task of equal numbers
same_task
    : {a b c d a' b' c' d' : ℕ} → a ≡ a' → b ≡ b' → c ≡ c' → d ≡ d'
    → ◌≡◌ {A = Task} (record { period = a; jitter = b; cost = c; deadline = d; low = false })
    (record { period = a'; jitter = b'; cost = c'; deadline = d'; low = false })
same_task e f g h = rw (e, f, g, h)

four_task : (m : LineSoFar) (p : List ℕ) (s : Seen m p) → m.digit ≡ true → m.commas ≡ 3 → task_so_far m ≡ cut_at cap (task_of (fields_of p))
unfolding task_of
four_task m p s n c =
    let k : length s.done ≡ 3 = omega (arith, s.commas) in
    let v = (present_number m.digit m.value s.present s.now n).1 in
    same_task (s.first (omega arith) ∙ kept_field m p s 0 2 (omega arith)) (s.second (omega arith) ∙ kept_field m p s 1 1 (omega arith))
    (s.third (omega arith) ∙ kept_field m p s 2 0 (omega arith)) (v ∙ ap (λ x. min cap (value x)) (last_field m p s 3 (sym k)))

pub seen_closes : (m : LineSoFar) (p : List ℕ) → Seen m p → Closes p (taken m line_feed)
unfolding is_digit
seen_closes m p s = go m.digit refl
  where
    count : m.digit ≡ true → (x : Bool) → eqb m.commas 3 ≡ x → Closes p (taken m line_feed)
    count n true h =
        subst (Closes p) (taken_end m line_feed refl refl n (eqb-true _ _ h)) (forms _ (four_fields m p s n (eqb-true _ _ h)) (four_task m p s n (eqb-true _ _ h)))
    count n false h =
        let k = length-append s.done (s.present ∷ []) in
        subst (Closes p) (taken_short m line_feed refl refl (eqb-false _ _ h))
        (fails (ap is_four (all_fields m p s) ∙ bad_count _ (λ e. eqb-false m.commas 3 h (omega (arith, k, s.commas)))))

    go : (x : Bool) → m.digit ≡ x → Closes p (taken m line_feed)
    go true n = count n (eqb m.commas 3) refl
    go false n =
        subst (Closes p) (taken_early m line_feed refl n)
        (fails (ap is_four (all_fields m p s) ∙ bad_field s.done s.present [] (present_none m.digit m.value s.present s.now n)))
