-- The C interface: each function returns one number and leaves the values of an answer in a lent list, `given`.
use Rattle.std.specs.Prelude.{ℕ, ◌+◌, ◌*◌, min, ◌≡◌, List, length}
use Rattle.std.specs.Borrow.{MutBor}
use denote.Triple.Both.{Both}
use Rattle.model.specs.Choice.{if_lt}
use Rattle.model.specs.Verdicts.{refusal, Verdict}
use Rattle.model.specs.Lists.{overwrite}
use Rattle.model.specs.Answers.{Returned, returned}
use Rattle.model.specs.Questions.{Outcome, refuse, on_accepted}
use Rattle.model.specs.declared.Refusal.{Refusal}

-- 0 for an answer; the refusal's number in the upper 32 bits and its place in the lower ones, which a larger place fills: it never reaches the number.
unfoldable pub code : Returned → ℕ
code r = r.number * 4294967296 + min r.place 4294967295

-- Nothing but a refusal was returned.
pub record IsRefused (r : Returned) : Type 0 where
  pub told : Refusal
  pub said : r ≡ returned told

-- The values of an answer stand first in `given`; a refusal has none.
unfoldable pub given_after : Returned → List ℕ → List ℕ
given_after r given = overwrite r.values given

-- What a function tells: the number c, and what `given` holds afterwards.
abbrev pub Told : ℕ → List ℕ → List ℕ → Returned → Type 0
Told c given after r = (c ≡ code r) × (after ≡ given_after r given)

-- The same for one that writes a lent list, and what that list holds afterwards.
abbrev pub Wrote : ℕ → List ℕ → List ℕ → List ℕ → Outcome → Type 0
Wrote c given after lent o = Told c given after o.answer × (lent ≡ o.after)

-- How many numbers `given` has at least: an answer has up to three values.
abbrev pub given_size : ℕ
given_size = 3

-- A shorter one is refusal 11, unless a refusal comes ahead of that.
unfoldable pub with_given : {A : Type 0} → List ℕ → Verdict → (Refusal → A) → A → A
with_given given ahead refuse a = if_lt (length given) given_size (on_accepted ahead refuse (refuse (refusal 11 0))) a

-- The number where `given` is too short.
unfoldable pub short_of : Verdict → ℕ
short_of ahead = code (on_accepted ahead (λ f. returned f) (returned (refusal 11 0)))

-- A list that is lent to be written, at entry and at exit.
abbrev pub Lent : Type 0
Lent = Both (MutBor (List ℕ)) (MutBor (List ℕ))

-- The promise of a function: it tells what the question returns, with `given`. The verdict `ahead` says what comes ahead of the refusal of a short `given`:
-- for a question about rows or a file the verdict on them, since 12, 13 and 14 come behind 11.
abbrev pub Answers : ℕ → Lent → Verdict → Returned → Type 0
Answers c given ahead r = Told c given.entry.now given.exit.now (with_given given.entry.now ahead (λ f. returned f) r)

-- The same for a question that writes a lent list, which it is asked with.
abbrev pub AnswersInto : ℕ → Lent → Lent → Verdict → (List ℕ → Outcome) → Type 0
AnswersInto c given lent ahead asked =
    Wrote c given.entry.now given.exit.now lent.exit.now
    (with_given given.entry.now ahead (λ f. refuse f lent.entry.now) (asked lent.entry.now))
