-- What the unfolding program prints. Document 01, "The ring show": "The unfolding program reads a show from standard input and prints
-- its links (cue, cue, label), each triple once, rising."
use Rattle.std.specs.Prelude.{ℕ, zero, suc, ◌+◌, ◌/◌, ◌%◌, Bool, true, false, ltb}
use mathlib.Core.List.{List, [], ◌∷◌, ◌++◌, map, flat_map}
use Rattle.model.specs.Choice.{if_lt, if_eq}
use Rattle.model.specs.Limits.{max_label, printed_cues}
use Rattle.model.specs.Values.{digit_zero}
use Rattle.model.specs.Text.{comma, line_feed}
use Rattle.model.specs.Blocks.{Link, Block, blocks_of, count}
use Rattle.model.specs.Verdicts.{read_file, numbers_of, file_verdict}
use Rattle.model.specs.Unfolding.{show_links}
use Rattle.model.specs.Lists.{range, keep}
use Rattle.model.specs.Questions.{on_accepted}
use Rattle.model.specs.declared.Refusal.{Refusal}

-- Some link is the triple (u, v, label).
unfoldable pub is_triple : List Link → ℕ → ℕ → ℕ → Bool
is_triple [] u v label = false
is_triple (l ∷ E) u v label =
    if_eq l.from u (if_eq l.to v (if_eq l.label label true (is_triple E u v label)) (is_triple E u v label)) (is_triple E u v label)

-- The triples of the show, each once, rising by cue, cue and label.
unfoldable pub triples_of : List Link → ℕ → ℕ → List Link
triples_of E u v = map (λ label. record { from = u; to = v; label = label }) (keep (is_triple E u v) (range 1 max_label))

unfoldable pub triples : List Block → List Link
triples bs =
    flat_map (λ u. flat_map (λ v. triples_of (show_links bs) u v) (range 1 (count bs))) (range 1 (count bs))

-- A number in base ten, of at most so many digits.
unfoldable pub number_text : ℕ → ℕ → List ℕ
number_text zero n = []
number_text (suc more) n = elim (ltb n 10) [ true ↦ (digit_zero + n) ∷ [] | false ↦ number_text more (n / 10) ++ ((digit_zero + n % 10) ∷ []) ]

-- A line of some values with commas between.
unfoldable pub values_text : List ℕ → List ℕ
values_text [] = line_feed ∷ []
values_text (n ∷ []) = number_text 10 n ++ (line_feed ∷ [])
values_text (n ∷ m ∷ ns) = number_text 10 n ++ (comma ∷ values_text (m ∷ ns))

-- The lines `from,to,label`, `cues` and `refusal,place`.
unfoldable pub links_title : List ℕ
links_title = 102 ∷ 114 ∷ 111 ∷ 109 ∷ comma ∷ 116 ∷ 111 ∷ comma ∷ 108 ∷ 97 ∷ 98 ∷ 101 ∷ 108 ∷ line_feed ∷ []

unfoldable pub cues_title : List ℕ
cues_title = 99 ∷ 117 ∷ 101 ∷ 115 ∷ line_feed ∷ []

unfoldable pub refusal_title : List ℕ
refusal_title = 114 ∷ 101 ∷ 102 ∷ 117 ∷ 115 ∷ 97 ∷ 108 ∷ comma ∷ 112 ∷ 108 ∷ 97 ∷ 99 ∷ 101 ∷ line_feed ∷ []

-- "for a refusal, the line `refusal,place` and a line of the two values with a comma between".
unfoldable pub refusal_text : Refusal → List ℕ
refusal_text r = refusal_title ++ values_text (r.number ∷ r.place ∷ [])

-- "Over 1,000 cues it prints `cues` and the count on two lines".
unfoldable pub show_text : List Block → List ℕ
show_text bs =
    if_lt printed_cues (count bs)
    (cues_title ++ values_text (count bs ∷ []))
    (links_title ++ flat_map (λ l. values_text (l.from ∷ l.to ∷ l.label ∷ [])) (triples bs))

-- All that is printed for the bytes of a file.
unfoldable pub printed : List ℕ → List ℕ
printed file = on_accepted (file_verdict file) refusal_text (show_text (blocks_of (numbers_of (read_file file))))
