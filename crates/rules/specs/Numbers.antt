-- The numbers of faults and of kinds, as the rules have them.
use Rattle.std.specs.Prelude.{ℕ, ◌<◌, ◌≡◌, Result, Ok, Err, MatchResult}
use Rattle.rules.specs.declared.faults.Fault.{Fault}
use Rattle.rules.specs.declared.faults.Fault.TheVariants.{Place, Range, Repeated, Order}
use Rattle.rules.specs.declared.faults.Kind.{Kind}
use Rattle.rules.specs.declared.faults.Kind.TheVariants.{Opening, Link, Use}

abbrev pub number : Fault → ℕ
number Place = 5
number Range = 6
number Repeated = 7
number Order = 8

-- What a check says of a row: its number, or 0 where the row passes.
abbrev pub said : {A : Type 0} → Result A Fault → ℕ
said (Ok x) = 0
said (Err f) = number f

abbrev pub kind_number : Kind → ℕ
kind_number Opening = 0
kind_number Link = 1
kind_number Use = 2

-- The kind of a number, where it is one.
abbrev pub KindGiven : ℕ → Result Kind Fault → Type 0
KindGiven n r = MatchResult r (λ k. kind_number k ≡ n) (λ f. (f ≡ Place) × (2 < n))
