-- The questions. For each, from what is lent: what is returned, and what the lent list that it writes holds afterwards, refused calls
-- included. Document 01, "Questions" and "Refusals by number". An entry point's promise is an equation with the definition here; what
-- its answer says in 01's numbers stands in Answers.antt. Whatever a question is lent only to read stays as it was.
use Rattle.std.specs.Prelude.{ℕ, min, Bool, List, [], ◌∷◌, length, take, replicate, ltb, Ok, Err}
use Rattle.model.specs.Choice.{if_lt, if_eq, if_true}
use Rattle.model.specs.Limits.{max_depth, work_size}
use Rattle.model.specs.Rows.{row_count, rows_of, file_text}
use Rattle.model.specs.Rules.{is_cue}
use Rattle.model.specs.Blocks.{Block, blocks_of, last_block, count}
use Rattle.model.specs.Verdicts.{refusal, verdict, read_file, numbers_of, file_verdict, Verdict}
use Rattle.model.specs.Desk.{with_desk, desk_file_verdict}
use Rattle.model.specs.Unfolding.{show_links}
use Rattle.model.specs.Paths.{Place, number_in, place_in}
use Rattle.model.specs.Lists.{cues_after, is_out, is_into, overwrite}
use Rattle.model.specs.Behind.{Behind, Stands, Missing, behind}
use Rattle.model.specs.Chains.{Distance, Far, Unreachable, fewest}
use Rattle.model.specs.Summaries.{work_after}
use Rattle.model.specs.Waits.{WaitFile, WaitTable, Unfit, wait_file}
use Rattle.model.specs.Quickest.{quickest}
use Rattle.model.specs.Answers.{Returned, returned, given, flag, halves}
use Rattle.model.specs.declared.Refusal.{Refusal}

-- What is returned, and the final contents of the lent list that the question writes.
pub record Outcome : Type 0 where
  pub answer : Returned
  pub after : List ℕ

abbrev pub outcome : Returned → List ℕ → Outcome
outcome r after = record { answer = r; after = after }

-- "A refusal leaves all lent memory unchanged."
unfoldable pub refuse : Refusal → List ℕ → Outcome
refuse r lent = record { answer = returned r; after = lent }

-- An answer with its values, and what is written.
unfoldable pub answer : List ℕ → List ℕ → Outcome
answer values after = record { answer = given values; after = after }

-- "Each but reading takes lent rows and checks them before it answers."
unfoldable pub on_accepted : {A : Type 0} → Verdict → (Refusal → A) → A → A
on_accepted (Ok _) refuse answer = answer
on_accepted (Err r) refuse answer = refuse r

-- 11: "lent output, path list or work area too short".
unfoldable pub with_room : ℕ → List ℕ → Outcome → Outcome
with_room need lent o = if_lt (length lent) need (refuse (refusal 11 0) lent) o

-- 12: "cue number 0 or above the count".
unfoldable pub with_cue : List Block → ℕ → List ℕ → Outcome → Outcome
with_cue bs n lent o = if_true (is_cue (count bs) n) o (refuse (refusal 12 0) lent)

-- "Read a file to rows, giving rows, blocks and cues".
unfoldable pub read_into : List ℕ → List ℕ → Outcome
read_into xs out =
    with_room (length xs) out
    (answer (row_count xs ∷ length (blocks_of xs) ∷ count (blocks_of xs) ∷ []) (overwrite xs out))

unfoldable pub read_asked : List ℕ → List ℕ → Outcome
read_asked file out = on_accepted (file_verdict file) (λ r. refuse r out) (read_into (numbers_of (read_file file)) out)

-- 02, Paper 4: "A second way of reading puts these rows before the file's"; "The limits on rows and blocks count them, and so do the rows and blocks
-- given".
unfoldable pub desk_read_asked : List ℕ → List ℕ → Outcome
desk_read_asked file out =
    on_accepted (desk_file_verdict file) (λ r. refuse r out) (read_into (with_desk (numbers_of (read_file file))) out)

-- "write rows as a file, giving its length".
unfoldable pub write_into : List ℕ → List ℕ → Outcome
write_into text out = with_room (length text) out (answer (length text ∷ []) (overwrite text out))

unfoldable pub write_asked : List ℕ → List ℕ → Outcome
write_asked xs out = on_accepted (verdict xs) (λ r. refuse r out) (write_into (file_text (rows_of xs)) out)

-- "Count: the total of the show."
unfoldable pub count_asked : List ℕ → Returned
count_asked xs = on_accepted (verdict xs) (λ r. returned r) (given (count (blocks_of xs) ∷ []))

-- "Locate n: depth, block and own cue; the path goes to the first depth numbers of a lent list of at least 127, the rest unchanged."
unfoldable pub located : Place → List ℕ → Outcome
located q path = answer (length q.path ∷ q.block ∷ q.own ∷ []) (overwrite q.path path)

unfoldable pub locate_in : List Block → ℕ → List ℕ → Outcome
locate_in bs n path = with_room max_depth path (with_cue bs n path (located (place_in bs (last_block bs) n) path))

unfoldable pub locate_asked : List ℕ → ℕ → List ℕ → Outcome
locate_asked xs n path = on_accepted (verdict xs) (λ r. refuse r path) (locate_in (blocks_of xs) n path)

-- "Number of a path and an own cue: the number." 13: "path over 127 long, a step that isn't a use, or not an own cue": there it is 0.
unfoldable pub numbered : ℕ → Returned
numbered n = if_eq n 0 (returned (refusal 13 0)) (given (n ∷ []))

unfoldable pub show_number : List Block → List ℕ → ℕ → ℕ
show_number bs path c = if_lt max_depth (length path) 0 (number_in bs (last_block bs) 0 path c)

unfoldable pub number_asked : List ℕ → List ℕ → ℕ → Returned
number_asked xs path c = on_accepted (verdict xs) (λ r. returned r) (numbered (show_number (blocks_of xs) path c))

-- "as many as fit, the rest unchanged; how many were written; "more" exactly if a further one exists".
unfoldable pub listed : List ℕ → List ℕ → Outcome
listed cues page =
    answer (min (length page) (length cues) ∷ flag (ltb (length page) (length cues)) ∷ []) (overwrite (take (length page) cues) page)

-- "List out, or in, of cue v after n". No page is too short.
unfoldable pub list_in : List Block → (ℕ → Bool) → ℕ → ℕ → List ℕ → Outcome
list_in bs linked v n page = with_cue bs v page (listed (cues_after linked (count bs) n) page)

unfoldable pub out_asked : List ℕ → ℕ → ℕ → List ℕ → Outcome
out_asked xs v n page =
    on_accepted (verdict xs) (λ r. refuse r page) (list_in (blocks_of xs) (is_out (show_links (blocks_of xs)) v) v n page)

unfoldable pub in_asked : List ℕ → ℕ → ℕ → List ℕ → Outcome
in_asked xs v n page =
    on_accepted (verdict xs) (λ r. refuse r page) (list_in (blocks_of xs) (is_into (show_links (blocks_of xs)) v) v n page)

-- 02, Paper 2: "For s and t, give the number of one link row, and the depth and path of the copy it stands in, the path into a path list as
-- for locating"; "14, place 0, where no link from s to t exists, after 12". s is checked before t.
unfoldable pub row_found : Behind → List ℕ → Outcome
row_found (Stands o) path = answer (o.row ∷ length o.path ∷ []) (overwrite o.path path)
row_found Missing path = refuse (refusal 14 0) path

unfoldable pub row_in : List ℕ → ℕ → ℕ → List ℕ → Outcome
row_in xs s t path =
    with_room max_depth path (with_cue (blocks_of xs) s path (with_cue (blocks_of xs) t path (row_found (behind xs s t) path)))

unfoldable pub row_asked : List ℕ → ℕ → ℕ → List ℕ → Outcome
row_asked xs s t path = on_accepted (verdict xs) (λ r. refuse r path) (row_in xs s t path)

-- "Fewest from s to t: a number, or none": whether there is one, and the number, 0 where there is none. s is checked before t.
unfoldable pub distance_values : Distance → List ℕ
distance_values (Far n) = 1 ∷ n ∷ []
distance_values Unreachable = 0 ∷ 0 ∷ []

unfoldable pub fewest_in : List Block → ℕ → ℕ → List ℕ → Outcome
fewest_in bs s t work =
    with_room work_size work
    (with_cue bs s work
    (with_cue bs t work
    (answer (distance_values (fewest (show_links bs) (count bs) s t)) (work_after bs work))))

unfoldable pub fewest_asked : List ℕ → ℕ → ℕ → List ℕ → Outcome
fewest_asked xs s t work = on_accepted (verdict xs) (λ r. refuse r work) (fewest_in (blocks_of xs) s t work)

-- 02, Paper 5, "The quickest answer": whether there is one, and the sum, 0 where there is none.
unfoldable pub sum_values : Distance → List ℕ
sum_values (Far n) = 1 ∷ halves n
sum_values Unreachable = 0 ∷ halves 0

-- "an answer leaves the first 16,384 at 0 and the rest unchanged".
unfoldable pub cleared : List ℕ → List ℕ
cleared work = overwrite (replicate work_size 0) work

-- 15, 16 and 17 "all after 12". s is checked before t.
unfoldable pub quickest_under : WaitFile → List Block → ℕ → ℕ → List ℕ → Outcome
quickest_under (WaitTable waits) bs s t work = answer (sum_values (quickest waits (show_links bs) (count bs) s t)) (cleared work)
quickest_under (Unfit number line) bs s t work = refuse (refusal number line) work

unfoldable pub quickest_in : List Block → ℕ → ℕ → List ℕ → List ℕ → Outcome
quickest_in bs s t file work =
    with_room work_size work (with_cue bs s work (with_cue bs t work (quickest_under (wait_file file) bs s t work)))

unfoldable pub quickest_asked : List ℕ → ℕ → ℕ → List ℕ → List ℕ → Outcome
quickest_asked xs s t file work = on_accepted (verdict xs) (λ r. refuse r work) (quickest_in (blocks_of xs) s t file work)
