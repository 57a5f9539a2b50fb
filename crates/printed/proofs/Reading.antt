-- What a file that was loaded says of its text.
use Prim.Native.Nat.{ℕ, ◌-◌, ◌≤◌, ◌<◌}
use native.Mathlib.Omega.{arith}
use mathlib.Core.Path.{◌≡◌, refl, sym, ◌∙◌, ap}
use mathlib.Core.List.{List, [], ◌∷◌, ◌++◌}
use lib.ListN.{take, drop}
use Rattle.std.specs.Prelude.{Ok, Err, Some, None}
use Rattle.std.proofs.lemmas.Option.{none-some, same_Some}
use Rattle.model.specs.Limits.{printed_cues}
use Rattle.model.specs.Blocks.{Block, blocks_of, count}
use Rattle.model.specs.Printed.{values_text, links_title, cues_title, refusal_text, show_text, printed}
use Rattle.model.specs.Verdicts.{refusal, read_file, numbers_of, file_verdict}
use Rattle.model.specs.declared.Refusal.{Refusal}
use Rattle.blocks.specs.Loaded.{Loaded}
use Rattle.loading.specs.Loads.{Loads, Loading}
use Rattle.loading.proofs.Outcomes.{rows-room, part-loaded, loaded-yes, loaded-no}
use Rattle.printing.specs.Stream.{StartsWith}
use Rattle.printing.proofs.Triples.{show_lines, show_count}
use Rattle.printed.specs.Parts.{end_of, lines_after, rest_of, TextBegun}
use Rattle.printed.specs.declared.Begun.{Begun}
use Rattle.printed.proofs.Parts.{no_lines}

-- The lines of the links are still to come, behind their title.
module _ (bs : List Block) (cues : ℕ) (all : cues ≡ count bs) (few : cues ≤ printed_cues) where
  title : show_text bs ≡ links_title ++ lines_after bs 0
  unfolding lines_after
  title = let z : count bs - 0 ≡ count bs = omega arith in rw z (show_lines bs (omega arith))

  none_yet : (m : List ℕ) → lines_after bs 0 ≡ rest_of bs m 0 (end_of cues)
  unfolding rest_of
  none_yet m = sym (ap (λ zs. zs ++ lines_after bs 0) (no_lines m 0 (end_of (count bs)) (end_of cues) (omega (arith, all))))

-- The three beginnings, of a file that was loaded with the answer a.
module _ (file rows t : List ℕ) (a : Loading) (l : Loads (file_verdict file) (numbers_of (read_file file)) a rows t) (out : List ℕ) (used : ℕ) where
  begun_whole : (w : List ℕ) (r : Begun) → printed file ≡ w → StartsWith w used out → (r.used ≡ used) × (r.coming ≡ None) → TextBegun file rows t out r
  begun_whole w r e s d =
      record {
        fits = rw d.0 s.fits;
        whole = λ g. rw d.0 s.text ∙ sym e;
        size = λ k g. absurd (none-some k (sym d.1 ∙ g));
        ready = λ k g. absurd (none-some k (sym d.1 ∙ g));
        text = λ k g. absurd (none-some k (sym d.1 ∙ g));
      }

  pub refused-begun : (f : Refusal) (n p : ℕ) (r : Begun) → a ≡ Err f → n ≡ f.number → p ≡ f.place → StartsWith (refusal_text (refusal n p)) used out
      → (r.used ≡ used) × (r.coming ≡ None) → TextBegun file rows t out r
  unfolding printed refusal
  refused-begun f n p r e number place text d =
      let s : StartsWith (refusal_text f) used out = rw (← number, ← place) text in
      begun_whole (refusal_text f) r
      (sym (loaded-no (file_verdict file) (numbers_of (read_file file)) rows t a l refusal_text (show_text (blocks_of (numbers_of (read_file file)))) (refusal_text f)
      f e refl))
      s d

  -- n numbers, and their count.
  module _ (n : ℕ) (e : a ≡ Ok n) where
    lent : take n rows ≡ take (n - 0) (drop 0 rows)
    lent = let z : n - 0 ≡ n = omega arith in rw z refl

    pub rows-loaded : Loaded (take n rows) t
    rows-loaded = rw lent (part-loaded (file_verdict file) (numbers_of (read_file file)) rows t a l n e)

  module _ (n : ℕ) (e : a ≡ Ok n) (cues : ℕ) (all : cues ≡ count (blocks_of (take n rows))) where
    abbrev part : List ℕ
    part = take n rows

    shown : printed file ≡ show_text (blocks_of part)
    unfolding printed
    shown =
        sym (loaded-yes (file_verdict file) (numbers_of (read_file file)) rows t a l n e refusal_text (λ zs. show_text (blocks_of zs)) (show_text (blocks_of part))
        (ap (λ zs. show_text (blocks_of zs)) (lent n e)))

    pub count-begun : (r : Begun) → printed_cues < cues → StartsWith (cues_title ++ values_text (cues ∷ [])) used out → (r.used ≡ used) × (r.coming ≡ None)
        → TextBegun file rows t out r
    count-begun r h s d =
        begun_whole (cues_title ++ values_text (cues ∷ [])) r
        (shown ∙ show_count (blocks_of part) (omega (arith, all)) ∙ ap (λ k. cues_title ++ values_text (k ∷ [])) (sym all)) s d

    pub links-begun : cues ≤ printed_cues → StartsWith links_title used out
        → TextBegun file rows t out (record { used = used; coming = Some (record { size = n; cues = cues }) })
    links-begun few s =
        record {
          fits = s.fits;
          whole = λ g. absurd (none-some _ (sym g));
          size = λ k g. rw (← same_Some _ k g) (rows-room (file_verdict file) (numbers_of (read_file file)) rows t a l n e);
          ready = λ k g. rw (← same_Some _ k g) (record { loaded = rows-loaded n e; all = all; few = few });
          text = λ k g m. rw (← same_Some _ k g, s.text)
              (shown ∙ title (blocks_of part) cues all few ∙ ap (λ zs. links_title ++ zs) (none_yet (blocks_of part) cues all few m));
        }
