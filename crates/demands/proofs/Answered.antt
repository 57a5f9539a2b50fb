-- Every question has an answer: whatever the model returns is what some answer says.
use Prim.Native.Nat.{ℕ, ◌<◌}
use native.Mathlib.Omega.{arith}
use native.Mathlib.Decide.{dec_lt, ℕ_discrete}
use mathlib.Core.Path.{◌≡◌, refl, sym, ap}
use mathlib.Core.Bool.{Bool, true, false}
use mathlib.Core.List.{List, [], ◌∷◌}
use lib.ListN.{length}
use Rattle.std.specs.Prelude.{Ok, Err, Some, None}
use Rattle.model.specs.Choice.{if_true}
use Rattle.model.specs.Rules.{is_cue}
use Rattle.model.specs.Blocks.{Block, blocks_of, count}
use Rattle.model.specs.Unfolding.{show_links}
use Rattle.model.specs.Lists.{is_out, is_into}
use Rattle.model.specs.Behind.{Behind, Stands, Missing, behind}
use Rattle.model.specs.Chains.{Distance, Far, Unreachable}
use Rattle.model.specs.Verdicts.{refusal, verdict, read_file, numbers_of, file_verdict, Verdict}
use Rattle.model.specs.Desk.{with_desk, desk_file_verdict}
use Rattle.model.specs.Waits.{WaitFile, WaitTable, Unfit, wait_file}
use Rattle.model.specs.Answers.{Returned, given, returned, of_read, of_write, of_count, of_locate, of_number, of_list, of_row, of_fewest, of_quickest, CountAnswer, NumberAnswer, QuickestAnswer, show_size, cue_place, listing, row_at_depth, line_refusal}
use Rattle.model.specs.Questions.{Outcome, outcome, answer, refuse, on_accepted, with_room, with_cue, read_into, read_asked, desk_read_asked, write_into, write_asked}
use Rattle.model.specs.Questions.{count_asked, located, locate_in, locate_asked, numbered, show_number, number_asked, listed, list_in, out_asked, in_asked, row_found, row_in, row_asked}
use Rattle.model.specs.Questions.{distance_values, fewest_in, fewest_asked, sum_values, quickest_under, quickest_in, quickest_asked}
use Rattle.model.specs.Asking.{AsksRead, AsksDeskRead, AsksWrite, AsksCount, AsksLocate, AsksNumber, AsksOut, AsksIn, AsksRow, AsksFewest, AsksQuickest}
use Rattle.model.specs.declared.Refusal.{Refusal}
use Rattle.basics.proofs.Choices.{lt_then, lt_else, eq_then, eq_else}
use Rattle.demands.specs.Refusals.{HasAnswer}

-- Some answer says this, and leaves this.
abbrev Told : {A : Type 0} → (A → Returned) → Outcome → Type 0
Told {A} of o = HasAnswer (λ (r : A) (after : List ℕ). outcome (of r) after ≡ o)

-- What the questions have in common, for answers of which one says each refusal.
module _ {A : Type 0} (of : A → Returned) (refused : Refusal → A) (says : (q : Refusal) → of (refused q) ≡ returned q) (lent : List ℕ) where
  refuses : (q : Refusal) → Told of (refuse q lent)
  unfolding refuse
  refuses q = record { answer = refused q; after = lent; asks = ap (λ (x : Returned). outcome x lent) (says q) }

  room : (need : ℕ) (o : Outcome) → Told of o → Told of (with_room need lent o)
  unfolding with_room
  room need o told = go (dec_lt (length lent) need)
    where
      go : Dec (length lent < need) → Told of (with_room need lent o)
      go (yes h) = rw (lt_then (length lent) need (refuse (refusal 11 0) lent) o h) (refuses (refusal 11 0))
      go (no h) = rw (lt_else (length lent) need (refuse (refusal 11 0) lent) o (omega arith)) told

  cue : (bs : List Block) (n : ℕ) (o : Outcome) → Told of o → Told of (with_cue bs n lent o)
  unfolding with_cue if_true
  cue bs n o told = go (is_cue (count bs) n)
    where
      go : (b : Bool) → Told of (if_true b o (refuse (refusal 12 0) lent))
      go true = told
      go false = refuses (refusal 12 0)

  rows : (v : Verdict) (o : Outcome) → Told of o → Told of (on_accepted v (λ r. refuse r lent) o)
  unfolding on_accepted
  rows (Ok _) o told = told
  rows (Err q) o told = refuses q

-- The answer that says each refusal.
no_read : (q : Refusal) → of_read (Err q) ≡ returned q
unfolding of_read
no_read q = refl

no_write : (q : Refusal) → of_write (Err q) ≡ returned q
unfolding of_write
no_write q = refl

no_locate : (q : Refusal) → of_locate (Err q) ≡ returned q
unfolding of_locate
no_locate q = refl

no_list : (q : Refusal) → of_list (Err q) ≡ returned q
unfolding of_list
no_list q = refl

no_row : (q : Refusal) → of_row (Err q) ≡ returned q
unfolding of_row
no_row q = refl

no_fewest : (q : Refusal) → of_fewest (Err q) ≡ returned q
unfolding of_fewest
no_fewest q = refl

unfoldable untimed : Refusal → QuickestAnswer
untimed q = Err (line_refusal q.number q.place)

no_quickest : (q : Refusal) → of_quickest (untimed q) ≡ returned q
unfolding of_quickest untimed returned refusal
no_quickest q = refl

-- Reading and writing.
read-into : (xs out : List ℕ) → Told of_read (read_into xs out)
unfolding read_into answer of_read
read-into xs out = room of_read Err no_read out _ _ (record { answer = Ok (show_size _ _ _); after = _; asks = refl })

pub read-answers : (file out : List ℕ) → HasAnswer (AsksRead file out)
unfolding read_asked
read-answers file out = rows of_read Err no_read out (file_verdict file) _ (read-into (numbers_of (read_file file)) out)

pub desk_answers : (file out : List ℕ) → HasAnswer (AsksDeskRead file out)
unfolding desk_read_asked
desk_answers file out = rows of_read Err no_read out (desk_file_verdict file) _ (read-into (with_desk (numbers_of (read_file file))) out)

pub write-answers : (xs out : List ℕ) → HasAnswer (AsksWrite xs out)
unfolding write_asked write_into answer of_write
write-answers xs out =
    rows of_write Err no_write out (verdict xs) _ (room of_write Err no_write out _ _ (record { answer = Ok _; after = _; asks = refl }))

-- Count and number, which write nothing.
pub count-answers : (xs : List ℕ) → HasAnswer (λ (r : CountAnswer) (after : List ℕ). AsksCount xs r)
unfolding count_asked on_accepted of_count
count-answers xs = go (verdict xs)
  where
    go : (v : Verdict)
        → HasAnswer (λ (r : CountAnswer) (after : List ℕ). of_count r ≡ on_accepted v (λ r. returned r) (given (count (blocks_of xs) ∷ [])))
    go (Ok _) = record { answer = Ok _; after = []; asks = refl }
    go (Err q) = record { answer = Err q; after = []; asks = refl }

pub number-answers : (xs path : List ℕ) (c : ℕ) → HasAnswer (λ (r : NumberAnswer) (after : List ℕ). AsksNumber xs path c r)
unfolding number_asked numbered on_accepted of_number
number-answers xs path c = go (verdict xs) (show_number (blocks_of xs) path c)
  where
    at : (n : ℕ) → Dec (n ≡ 0) → HasAnswer (λ (r : NumberAnswer) (after : List ℕ). of_number r ≡ numbered n)
    at n (yes e) = record { answer = Err (refusal 13 0); after = []; asks = sym (eq_then n 0 _ _ e) }
    at n (no e) = record { answer = Ok n; after = []; asks = sym (eq_else n 0 _ _ e) }

    go : (v : Verdict) (n : ℕ) → HasAnswer (λ (r : NumberAnswer) (after : List ℕ). of_number r ≡ on_accepted v (λ r. returned r) (numbered n))
    go (Ok _) n = at n (ℕ_discrete n 0)
    go (Err q) n = record { answer = Err q; after = []; asks = refl }

-- Those that write a lent list.
pub locate-answers : (xs : List ℕ) (n : ℕ) (lent : List ℕ) → HasAnswer (AsksLocate xs n lent)
unfolding locate_asked locate_in located answer of_locate
locate-answers xs n lent =
    rows of_locate Err no_locate lent (verdict xs) _
    (room of_locate Err no_locate lent _ _
    (cue of_locate Err no_locate lent (blocks_of xs) n _ (record { answer = Ok (cue_place _ _ _); after = _; asks = refl })))

list_answers : (xs : List ℕ) (linked : ℕ → Bool) (v n : ℕ) (page : List ℕ)
    → Told of_list (on_accepted (verdict xs) (λ r. refuse r page) (list_in (blocks_of xs) linked v n page))
unfolding list_in listed answer of_list
list_answers xs linked v n page =
    rows of_list Err no_list page (verdict xs) _
    (cue of_list Err no_list page (blocks_of xs) v _ (record { answer = Ok (listing _ _); after = _; asks = refl }))

pub out_answers : (xs : List ℕ) (v n : ℕ) (page : List ℕ) → HasAnswer (AsksOut xs v n page)
unfolding out_asked
out_answers xs v n page = list_answers xs (is_out (show_links (blocks_of xs)) v) v n page

pub in_answers : (xs : List ℕ) (v n : ℕ) (page : List ℕ) → HasAnswer (AsksIn xs v n page)
unfolding in_asked
in_answers xs v n page = list_answers xs (is_into (show_links (blocks_of xs)) v) v n page

row-found : (b : Behind) (path : List ℕ) → Told of_row (row_found b path)
unfolding row_found answer of_row
row-found (Stands o) path = record { answer = Ok (row_at_depth _ _); after = _; asks = refl }
row-found Missing path = refuses of_row Err no_row path (refusal 14 0)

pub row-answers : (xs : List ℕ) (s t : ℕ) (lent : List ℕ) → HasAnswer (AsksRow xs s t lent)
unfolding row_asked row_in
row-answers xs s t lent =
    rows of_row Err no_row lent (verdict xs) _
    (room of_row Err no_row lent _ _
    (cue of_row Err no_row lent (blocks_of xs) s _ (cue of_row Err no_row lent (blocks_of xs) t _ (row-found (behind xs s t) lent))))

steps : (d : Distance) (after : List ℕ) → Told of_fewest (answer (distance_values d) after)
unfolding answer distance_values of_fewest
steps (Far n) after = record { answer = Ok (Some n); after = after; asks = refl }
steps Unreachable after = record { answer = Ok None; after = after; asks = refl }

pub fewest-answers : (xs : List ℕ) (s t : ℕ) (work : List ℕ) → HasAnswer (AsksFewest xs s t work)
unfolding fewest_asked fewest_in
fewest-answers xs s t work =
    rows of_fewest Err no_fewest work (verdict xs) _
    (room of_fewest Err no_fewest work _ _
    (cue of_fewest Err no_fewest work (blocks_of xs) s _ (cue of_fewest Err no_fewest work (blocks_of xs) t _ (steps _ _))))

sums : (d : Distance) (after : List ℕ) → Told of_quickest (answer (sum_values d) after)
unfolding answer sum_values of_quickest
sums (Far n) after = record { answer = Ok (Some n); after = after; asks = refl }
sums Unreachable after = record { answer = Ok None; after = after; asks = refl }

under : (w : WaitFile) (bs : List Block) (s t : ℕ) (work : List ℕ) → Told of_quickest (quickest_under w bs s t work)
unfolding quickest_under
under (WaitTable waits) bs s t work = sums _ _
under (Unfit number line) bs s t work = refuses of_quickest untimed no_quickest work (refusal number line)

pub quickest-answers : (xs : List ℕ) (s t : ℕ) (f work : List ℕ) → HasAnswer (AsksQuickest xs s t f work)
unfolding quickest_asked quickest_in
quickest-answers xs s t f work =
    rows of_quickest untimed no_quickest work (verdict xs) _
    (room of_quickest untimed no_quickest work _ _
    (cue of_quickest untimed no_quickest work (blocks_of xs) s _
    (cue of_quickest untimed no_quickest work (blocks_of xs) t _ (under (wait_file f) (blocks_of xs) s t work))))
