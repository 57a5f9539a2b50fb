-- An answer is known by its number, place and values: what each kind of answer is, from what it returns.
use Prim.Native.Nat.{ℕ, ◌≤◌}
use native.Mathlib.Omega.{arith}
use mathlib.Core.Path.{◌≡◌, refl, sym, ◌∙◌, ap, ap₂}
use mathlib.Core.Bool.{Bool, true, false}
use mathlib.Core.List.{List, [], ◌∷◌}
use lib.ListN.{length, get_or}
use Rattle.std.specs.Prelude.{Ok, Err}
use Rattle.model.specs.Verdicts.{refusal}
use Rattle.model.specs.Answers.{Returned, given, returned, flag, of_read, of_write, of_count, of_locate, of_number, of_list, of_row, WriteAnswer, CountAnswer, NumberAnswer, ReadAnswer, LocateAnswer, ListAnswer, RowAnswer, show_size, cue_place, listing, row_at_depth}
use Rattle.model.specs.declared.Refusal.{Refusal}

-- Refusals that are returned alike are one refusal, values that are given alike are the same, and a refusal has no values.
pub same-refusal : (p q : Refusal) → returned p ≡ returned q → p ≡ q
unfolding returned refusal
same-refusal p q e = ap₂ refusal (ap (λ (x : Returned). x.number) e) (ap (λ (x : Returned). x.place) e)

pub same-value : (vs ws : List ℕ) → given vs ≡ given ws → (i : ℕ) → get_or vs i 0 ≡ get_or ws i 0
unfolding given
same-value vs ws e i = ap (λ (x : Returned). get_or x.values i 0) e

pub no_values : (vs : List ℕ) (q : Refusal) → 1 ≤ length vs → given vs ≡ returned q → ⊥
unfolding given returned
no_values vs q h e = let k = ap (λ (x : Returned). length x.values) e in omega arith

pub read_is : (r : ReadAnswer) (rows blocks cues : ℕ) → of_read r ≡ given (rows ∷ blocks ∷ cues ∷ []) → r ≡ Ok (show_size rows blocks cues)
unfolding of_read
read_is (Ok z) rows blocks cues e =
    let p : z.rows ≡ rows = same-value _ _ e 0 in
    let q : z.blocks ≡ blocks = same-value _ _ e 1 in
    let s : z.cues ≡ cues = same-value _ _ e 2 in
    rw (← p, ← q, ← s)
read_is (Err p) rows blocks cues e = absurd (no_values _ p (omega arith) (sym e))

-- An answer has one size; a page has one listing, and a row behind one number and depth.
pub sizes-same : (r : ReadAnswer) (a b c x y z : ℕ) → r ≡ Ok (show_size a b c) → r ≡ Ok (show_size x y z) → (a ≡ x) × (b ≡ y) × (c ≡ z)
unfolding of_read
sizes-same r a b c x y z p q = let e = ap of_read (sym p ∙ q) in (same-value _ _ e 0, same-value _ _ e 1, same-value _ _ e 2)

pub unread-is : (r : ReadAnswer) (q : Refusal) → of_read r ≡ returned q → r ≡ Err q
unfolding of_read
unread-is (Ok z) q e = absurd (no_values _ q (omega arith) e)
unread-is (Err p) q e = ap Err (same-refusal p q e)

pub written_is : (r : WriteAnswer) (bytes : ℕ) → of_write r ≡ given (bytes ∷ []) → r ≡ Ok bytes
unfolding of_write
written_is (Ok n) bytes e = ap Ok (same-value _ _ e 0)
written_is (Err p) bytes e = absurd (no_values _ p (omega arith) (sym e))

pub cues-is : (r : CountAnswer) (n : ℕ) → of_count r ≡ given (n ∷ []) → r ≡ Ok n
unfolding of_count
cues-is (Ok m) n e = ap Ok (same-value _ _ e 0)
cues-is (Err p) n e = absurd (no_values _ p (omega arith) (sym e))

pub found-is : (r : LocateAnswer) (depth block own : ℕ) → of_locate r ≡ given (depth ∷ block ∷ own ∷ []) → r ≡ Ok (cue_place depth block own)
unfolding of_locate
found-is (Ok z) depth block own e =
    let p : z.depth ≡ depth = same-value _ _ e 0 in
    let q : z.block ≡ block = same-value _ _ e 1 in
    let s : z.own ≡ own = same-value _ _ e 2 in
    rw (← p, ← q, ← s)
found-is (Err p) depth block own e = absurd (no_values _ p (omega arith) (sym e))

pub number_is : (r : NumberAnswer) (n : ℕ) → of_number r ≡ given (n ∷ []) → r ≡ Ok n
unfolding of_number
number_is (Ok m) n e = ap Ok (same-value _ _ e 0)
number_is (Err p) n e = absurd (no_values _ p (omega arith) (sym e))

pub unnumbered-is : (r : NumberAnswer) (q : Refusal) → of_number r ≡ returned q → r ≡ Err q
unfolding of_number
unnumbered-is (Ok m) q e = absurd (no_values _ q (omega arith) e)
unnumbered-is (Err p) q e = ap Err (same-refusal p q e)

-- "more" or not.
flag_same : (a b : Bool) → flag a ≡ flag b → a ≡ b
unfolding flag
flag_same true true e = refl
flag_same true false e = absurd (omega arith)
flag_same false true e = absurd (omega arith)
flag_same false false e = refl

pub page-is : (r : ListAnswer) (written : ℕ) (more : Bool) → of_list r ≡ given (written ∷ flag more ∷ []) → r ≡ Ok (listing written more)
unfolding of_list
page-is (Ok z) written more e =
    let p : z.written ≡ written = same-value _ _ e 0 in
    let q : z.more ≡ more = flag_same z.more more (same-value _ _ e 1) in
    rw (← p, ← q)
page-is (Err p) written more e = absurd (no_values _ p (omega arith) (sym e))

pub listings-same : (r : ListAnswer) (n m : ℕ) (a b : Bool) → r ≡ Ok (listing n a) → r ≡ Ok (listing m b) → (n ≡ m) × (a ≡ b)
unfolding of_list
listings-same r n m a b p q = let e = ap of_list (sym p ∙ q) in (same-value _ _ e 0, flag_same a b (same-value _ _ e 1))

pub row_is : (r : RowAnswer) (row depth : ℕ) → of_row r ≡ given (row ∷ depth ∷ []) → r ≡ Ok (row_at_depth row depth)
unfolding of_row
row_is (Ok z) row depth e =
    let p : z.row ≡ row = same-value _ _ e 0 in
    let q : z.depth ≡ depth = same-value _ _ e 1 in
    rw (← p, ← q)
row_is (Err p) row depth e = absurd (no_values _ p (omega arith) (sym e))

pub rows-same : (r : RowAnswer) (n d m e : ℕ) → r ≡ Ok (row_at_depth n d) → r ≡ Ok (row_at_depth m e) → (n ≡ m) × (d ≡ e)
unfolding of_row
rows-same r n d m e p q = let f = ap of_row (sym p ∙ q) in (same-value _ _ f 0, same-value _ _ f 1)

pub untraced-is : (r : RowAnswer) (q : Refusal) → of_row r ≡ returned q → r ≡ Err q
unfolding of_row
untraced-is (Ok z) q e = absurd (no_values _ q (omega arith) e)
untraced-is (Err p) q e = ap Err (same-refusal p q e)
