-- Ready ticks in the words of document 01. `ready_is` and `ready_only` (proofs/ReadyLaws.antt): the computed list meets this, and no other list does.
use Rattle.std.specs.Prelude.{ℕ, ◌+◌, ◌-◌, ◌*◌, ◌≤◌, ◌<◌, ◌≡◌, List, length, get_or}
use Rattle.model.specs.Limits.{max_time, max_releases, max_tick}
use Rattle.model.specs.Gap.{gap}

-- "ready ticks" as document 01 defines them: r is a list of ticks, one for each release, each the least that is not before its release
-- and lies at least d_K(k) after the one k places before, for every k
pub record Ready (P K : ℕ) (a r : List ℕ) : Type 0 where
  pub long : length r ≡ length a
  pub not_before : (n : ℕ) → n < length a → get_or a n 0 ≤ get_or r n 0
  pub apart : (m k : ℕ) → m + k < length a → get_or r m 0 + gap P K k ≤ get_or r (m + k) 0
  pub least : (n t : ℕ) → n < length a → get_or a n 0 ≤ t → ((m : ℕ) → m < n → get_or r m 0 + gap P K (n - m) ≤ t) → get_or r n 0 ≤ t

-- the largest ready tick of a list within the documents' limits: the largest release tick and 1,000,000 ticks for each of the 1,023 releases before:
-- 1,000,001,023,000,000
abbrev pub max_ready : ℕ
max_ready = max_tick + max_time * (max_releases - 1)
