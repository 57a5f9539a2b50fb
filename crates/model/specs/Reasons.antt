-- A refusal in numbers, and the number of each reason of the code. Document 01, "Refusals by number": the table. Definitions and statements speak of
-- the numbers.
use Rattle.std.specs.Prelude.{ℕ, ◌≡◌, refl, if◌then◌else◌, ◌==◌}
use Rattle.model.specs.declared.reason.Reason.{Reason}
use Rattle.model.specs.declared.reason.Reason.TheVariants.{FileTooLong, BadNames, BadLine, BadRowCount, CannotFollow, OutOfRange, NamedTwice, OutOfOrder, BadBlock, TooManyCues, TooShort, NoSuchCue, NoSuchPath, NoSuchLink, BadWaitLine, WaitOutOfRange, WaitsOutOfOrder}

pub record Numbered : Type 0 where
  pub number : ℕ
  pub place : ℕ

abbrev pub number_of : Reason → ℕ
number_of FileTooLong = 1
number_of BadNames = 2
number_of BadLine = 3
number_of BadRowCount = 4
number_of CannotFollow = 5
number_of OutOfRange = 6
number_of NamedTwice = 7
number_of OutOfOrder = 8
number_of BadBlock = 9
number_of TooManyCues = 10
number_of TooShort = 11
number_of NoSuchCue = 12
number_of NoSuchPath = 13
number_of NoSuchLink = 14
number_of BadWaitLine = 15
number_of WaitOutOfRange = 16
number_of WaitsOutOfOrder = 17

-- The reason that has a number, so that a refusal can be copied and compared.
abbrev pub reason_of : ℕ → Reason
reason_of n =
    if n == 1 then FileTooLong else
    (if n == 2 then BadNames else
    (if n == 3 then BadLine else
    (if n == 4 then BadRowCount else
    (if n == 5 then CannotFollow else
    (if n == 6 then OutOfRange else
    (if n == 7 then NamedTwice else
    (if n == 8 then OutOfOrder else
    (if n == 9 then BadBlock else
    (if n == 10 then TooManyCues else
    (if n == 11 then TooShort else
    (if n == 12 then NoSuchCue else
    (if n == 13 then NoSuchPath else
    (if n == 14 then NoSuchLink else
    (if n == 15 then BadWaitLine else
    (if n == 16 then WaitOutOfRange else
    WaitsOutOfOrder)))))))))))))))

pub reason_again : (r : Reason) → reason_of (number_of r) ≡ r
reason_again FileTooLong = refl
reason_again BadNames = refl
reason_again BadLine = refl
reason_again BadRowCount = refl
reason_again CannotFollow = refl
reason_again OutOfRange = refl
reason_again NamedTwice = refl
reason_again OutOfOrder = refl
reason_again BadBlock = refl
reason_again TooManyCues = refl
reason_again TooShort = refl
reason_again NoSuchCue = refl
reason_again NoSuchPath = refl
reason_again NoSuchLink = refl
reason_again BadWaitLine = refl
reason_again WaitOutOfRange = refl
reason_again WaitsOutOfOrder = refl
