-- Laws of the tables of marks.
use Prim.Native.Nat.{ℕ, suc, ◌+◌, ◌*◌, ◌≤◌, ◌<◌}
use native.Mathlib.Omega.{arith}
use native.Mathlib.Decide.{ℕ_discrete, dec_lt}
use mathlib.Core.Path.{◌≡◌, refl, sym, ◌∙◌, ap}
use mathlib.Core.Logic.{◌⊎◌, inl, inr, ◌≢◌}
use mathlib.Core.Bool.{Bool, true, false}
use mathlib.Core.List.Memᴰ
use mathlib.Core.List.{List, [], ◌∷◌, ◌++◌, Memᴰ}
use lib.ListN.{length, get_or, take, drop, set, length-set}
use lib.Dec.{ltb}
use borrow.Author.Tests.{ltb-false}
use lib.Seq.{take-suc, take_at, take_all, get_or-set_same, get_or-set_other}
use Rattle.model.specs.Limits.{printed_cues}
use Rattle.model.specs.Choice.{if_lt, if_true}
use Rattle.model.specs.Answers.{flag}
use Rattle.model.specs.Blocks.{Link, Block, blocks_of, count}
use Rattle.model.specs.Lists.{range, overwrite}
use Rattle.model.specs.Printed.{is_triple}
use Rattle.model.specs.Unfolding.{show_links}
use Rattle.basics.proofs.Choices.{lt_then, lt_else, eq_then, eq_else, true_then, true_else}
use Rattle.basics.proofs.Keeping.{kept, keep-short}
use Rattle.basics.proofs.Members.{get_d_mem, range-bounds, range-mem, range_length}
use Rattle.basics.proofs.Printed.{triple-hit, triple-miss}
use Rattle.neighbours.specs.declared.Ask.{Ask}
use Rattle.model.specs.declared.Listed.{Listed}
use Rattle.neighbours.specs.Picks.{near_end, fits, picks, Picked, wants, wanted}
use Rattle.lists.specs.Answer.{labelled_cues, IsListed}
use Rattle.neighbours.proofs.Picked.{picked}
use Rattle.blocks.specs.declared.Place.{Place}
use Rattle.blocks.specs.Loaded.{Loaded}
use Rattle.blocks.specs.Places.{Found}
use Rattle.triples.specs.Marks.{label_places, Marked, MarkedTo, Blank, marks_all, Within, Says, Aims, TableTo}

-- What the marks of a label change.
module _ (label : ℕ) where
  abbrev at : ℕ → ℕ
  at v = label_places * v + label

  pub marks-long : (vs m : List ℕ) → length (marks_all vs label m) ≡ length m
  unfolding marks_all
  marks-long [] m = refl
  marks-long (v ∷ vs) m = marks-long vs (set m (at v) 1) ∙ length-set m (at v) 1

  pub marks-more : (vs m : List ℕ) (v : ℕ) → marks_all (vs ++ (v ∷ [])) label m ≡ set (marks_all vs label m) (at v) 1
  unfolding marks_all
  marks-more [] m v = refl
  marks-more (w ∷ vs) m v = marks-more vs (set m (at w) 1) v

  marks-other : (x : ℕ) (vs m : List ℕ) → ((v : ℕ) → Memᴰ v vs → x ≢ at v) → get_or (marks_all vs label m) x 0 ≡ get_or m x 0
  unfolding marks_all
  marks-other x [] m apart = refl
  marks-other x (v ∷ vs) m apart =
      marks-other x vs (set m (at v) 1) (λ w i. apart w (Memᴰ.tail i)) ∙ get_or-set_other m (at v) x 1 0 (apart v (Memᴰ.head refl))

  marks_stay : (x : ℕ) (vs m : List ℕ) → x < length m → get_or m x 0 ≡ 1 → get_or (marks_all vs label m) x 0 ≡ 1
  unfolding marks_all
  marks_stay x [] m h e = e
  marks_stay x (v ∷ vs) m h e = marks_stay x vs (set m (at v) 1) (rw (length-set m (at v) 1) h) (go (ℕ_discrete x (at v)))
    where
      go : Dec (x ≡ at v) → get_or (set m (at v) 1) x 0 ≡ 1
      go (yes p) = rw p (get_or-set_same m (at v) 1 0 (rw p at h))
      go (no n) = get_or-set_other m (at v) x 1 0 n ∙ e

  marks-hit : (v : ℕ) (vs m : List ℕ) → Memᴰ v vs → at v < length m → get_or (marks_all vs label m) (at v) 0 ≡ 1
  unfolding marks_all
  marks-hit v [] m i h = absurd (Memᴰ.not-nil i)
  marks-hit v (w ∷ vs) m i h = go (Memᴰ.cases_cons i) (marks-hit v vs (set m (at w) 1))
    where
      go : (v ≡ w) ⊎ Memᴰ v vs → (Memᴰ v vs → at v < length (set m (at w) 1) → get_or (marks_all vs label (set m (at w) 1)) (at v) 0 ≡ 1)
          → get_or (marks_all vs label (set m (at w) 1)) (at v) 0 ≡ 1
      go (inl p) later =
          marks_stay (at v) vs (set m (at w) 1) (rw (length-set m (at w) 1) h) (rw p (get_or-set_same m (at w) 1 0 (rw p at h)))
      go (inr j) later = later j (rw (length-set m (at w) 1) h)

-- One cue more of a page.
pub mark_on : (page begun m : List ℕ) (i v label : ℕ) → m ≡ marks_all (take i page) label begun → v ≡ get_or page i 0 → i < length page
    → set m (label_places * v + label) 1 ≡ marks_all (take (i + 1) page) label begun
mark_on page begun m i v label e f h =
    let k : i + 1 ≡ suc i = omega arith in
    rw (k, take-suc page i 0 h, e, f) (sym (marks-more label (take i page) begun (get_or page i 0)))

pub marks-done : (cues begun m : List ℕ) (i label : ℕ) → m ≡ marks_all (take i cues) label begun → length cues ≤ i → m ≡ marks_all cues label begun
marks-done cues begun m i label e h = e ∙ ap (λ vs. marks_all vs label begun) (take_all i cues h)

-- A triple is a link that the question with just its label picks.
abbrev pub out : ℕ → ℕ → Ask
out lo hi = record { inward = false; lo = lo; hi = hi; after = 0; room = 0 }

fits_in : (lo hi label : ℕ) → lo ≤ label → label ≤ hi → fits (out lo hi) label ≡ true
unfolding fits
fits_in lo hi label a b = lt_else label lo _ _ (omega arith) ∙ lt_else hi label _ _ (omega arith)

fits_not : (one label : ℕ) → label ≢ one → fits (out one one) label ≡ false
unfolding fits
fits_not one label n = go (dec_lt label one)
  where
    go : Dec (label < one) → if_lt label one false (if_lt one label false true) ≡ false
    go (yes h) = lt_then label one _ _ h
    go (no h) = lt_else label one _ _ (omega arith) ∙ lt_then one label _ _ (omega arith)

fits-is : (one label : ℕ) → fits (out one one) label ≡ true → label ≡ one
fits-is one label e = go (ℕ_discrete label one)
  where
    go : Dec (label ≡ one) → label ≡ one
    go (yes p) = p
    go (no x) = let z : ◌≡◌ {A = Bool} true false = sym e ∙ fits_not one label x in let o : ◌≡◌ {A = ℕ} 0 1 = cc in absurd (omega arith)

module _ (u v one : ℕ) where
  pub picks-triple : (E : List Link) → picks (out one one) E u v ≡ is_triple E u v one
  unfolding picks is_triple near_end if_true
  picks-triple [] = refl
  picks-triple (l ∷ E) = go (picks-triple E) (ℕ_discrete l.label one) (ℕ_discrete l.from u) (ℕ_discrete l.to v)
    where
      go : picks (out one one) E u v ≡ is_triple E u v one → Dec (l.label ≡ one) → Dec (l.from ≡ u) → Dec (l.to ≡ v)
          → picks (out one one) (l ∷ E) u v ≡ is_triple (l ∷ E) u v one
      go below (yes c) (yes a) (yes b) =
          true_then (fits (out one one) l.label) _ _ (fits_in one one l.label (omega arith) (omega arith))
          ∙ eq_then _ _ _ _ a
          ∙ eq_then _ _ _ _ b
          ∙ sym (triple-hit u v one l E a b c)
      go below (yes c) (yes a) (no b) =
          true_then (fits (out one one) l.label) _ _ (fits_in one one l.label (omega arith) (omega arith))
          ∙ eq_then _ _ _ _ a
          ∙ eq_else _ _ _ _ b
          ∙ below
          ∙ sym (triple-miss u v one l E (λ x y z. b y))
      go below (yes c) (no a) d =
          true_then (fits (out one one) l.label) _ _ (fits_in one one l.label (omega arith) (omega arith))
          ∙ eq_else _ _ _ _ a
          ∙ below
          ∙ sym (triple-miss u v one l E (λ x y z. a x))
      go below (no c) d f = true_else (fits (out one one) l.label) _ _ (fits_not one l.label c) ∙ below ∙ sym (triple-miss u v one l E (λ x y z. c z))

-- The cues that links with some labels lead to.
module _ (lo hi : ℕ) (bs : List Block) (u v : ℕ) where
  abbrev cues : List ℕ
  cues = labelled_cues lo hi bs u

  wants-picks : 1 ≤ v → wants (out lo hi) (show_links bs) u v ≡ picks (out lo hi) (show_links bs) u v
  unfolding wants
  wants-picks h = lt_then 0 v _ _ h

  pub cue-in : 1 ≤ v → v ≤ count bs → picks (out lo hi) (show_links bs) u v ≡ true → Memᴰ v cues
  unfolding labelled_cues wanted
  cue-in a b e = (kept (wants (out lo hi) (show_links bs) u) (range 1 (count bs)) v).1 (range-mem 1 (count bs) v a (omega arith), wants-picks a ∙ e)

  pub cue-was : Memᴰ v cues → (1 ≤ v) × (v ≤ count bs) × (picks (out lo hi) (show_links bs) u v ≡ true)
  unfolding labelled_cues wanted
  cue-was i =
      let (j, t) = (kept (wants (out lo hi) (show_links bs) u) (range 1 (count bs)) v).0 i in
      let b = range-bounds 1 (count bs) v j in
      (b.0, omega (arith, b.1), sym (wants-picks b.0) ∙ t)

pub few-cues : (lo hi : ℕ) (bs : List Block) (u : ℕ) → length (labelled_cues lo hi bs u) ≤ count bs
unfolding labelled_cues wanted
few-cues lo hi bs u = omega (arith, keep-short (wants (out lo hi) (show_links bs) u) (range 1 (count bs)), range_length 1 (count bs))

-- One label more, and some labels that no link has.
module _ (bs : List Block) (u : ℕ) (few : count bs ≤ printed_cues) where
  abbrev E : List Link
  E = show_links bs

  abbrev n : ℕ
  n = count bs

  pub mark_step : (one : ℕ) (m : List ℕ) → 1 ≤ one → one < label_places → MarkedTo E u n one m → MarkedTo E u n (one + 1) (marks_all (labelled_cues one one bs u) one m)
  unfolding flag
  mark_step one m low high was =
      record {
        long = marks-long one vs m ∙ was.long;
        none = λ v a b. marks-other one (label_places * v) vs m (λ w i e. omega arith) ∙ was.none v a b;
        at = λ v label a b c d. go v label a b c d (ℕ_discrete label one);
      }
    where
      vs : List ℕ
      vs = labelled_cues one one bs u

      other : (v label : ℕ) → Dec (label < one) → label ≢ one → if_lt label one (flag (is_triple E u v label)) 0 ≡ if_lt label (one + 1) (flag (is_triple E u v label)) 0
      other v label (yes h) x = lt_then label one _ _ h ∙ sym (lt_then label (one + 1) _ _ (omega arith))
      other v label (no h) x = lt_else label one _ _ (omega arith) ∙ sym (lt_else label (one + 1) _ _ (omega arith))

      go : (v label : ℕ) → 1 ≤ v → v ≤ n → 1 ≤ label → label < label_places → Dec (label ≡ one)
          → get_or (marks_all vs one m) (label_places * v + label) 0 ≡ if_lt label (one + 1) (flag (is_triple E u v label)) 0
      go v label a b c d (no x) =
          marks-other one (label_places * v + label) vs m (λ w i e. x (omega arith)) ∙ was.at v label a b c d ∙ other v label (dec_lt label one) x
      go v label a b c d (yes e) = rw e (here (is_triple E u v one) refl)
        where
          here : (t : Bool) → is_triple E u v one ≡ t → get_or (marks_all vs one m) (label_places * v + one) 0 ≡ if_lt one (one + 1) (flag (is_triple E u v one)) 0
          here true f =
              marks-hit one v vs m (cue-in one one bs u v a b (picks-triple u v one E ∙ f)) (omega (arith, was.long))
              ∙ sym (lt_then one (one + 1) _ _ (omega arith) ∙ ap flag f)
          here false f =
              marks-other one (label_places * v + one) vs m (λ w i g. not_there w i (omega arith))
              ∙ was.at v one a b low high
              ∙ lt_else one one _ _ (omega arith)
              ∙ sym (lt_then one (one + 1) _ _ (omega arith) ∙ ap flag f)
            where
              not_there : (w : ℕ) → Memᴰ w vs → w ≡ v → ⊥
              not_there w i g =
                  let p = (cue-was one one bs u w i).2 in
                  let z : ◌≡◌ {A = Bool} true false = sym p ∙ picks-triple u w one E ∙ rw g f in
                  let o : ◌≡◌ {A = ℕ} 0 1 = cc in
                  omega arith

  pub group_none : (lo hi : ℕ) (m : List ℕ) → lo ≤ hi → labelled_cues lo hi bs u ≡ [] → MarkedTo E u n lo m → MarkedTo E u n (hi + 1) m
  unfolding flag near_end
  group_none lo hi m order none was =
      record {
        long = was.long;
        none = was.none;
        at = λ v label a b c d. was.at v label a b c d ∙ go v label a b (dec_lt label lo) (dec_lt hi label);
      }
    where
      wider : (v label : ℕ) → lo ≤ label → label ≤ hi → Picked (out label label) E u v → Picked (out lo hi) E u v
      wider v label x y p =
          record {
            link = p.link;
            member = p.member;
            label = fits_in lo hi p.link.label (omega (arith, fits-is label p.link.label p.label)) (omega (arith, fits-is label p.link.label p.label));
            from = p.from;
            to = p.to;
          }

      no_triple : (v label : ℕ) → 1 ≤ v → v ≤ n → lo ≤ label → label ≤ hi → (t : Bool) → is_triple E u v label ≡ t → flag t ≡ 0
      no_triple v label a b x y false f = refl
      no_triple v label a b x y true f =
          absurd
          (Memᴰ.not-nil
          (rw none at
          (cue-in lo hi bs u v a b ((picked (out lo hi) u v E).1 (wider v label x y ((picked (out label label) u v E).0 (picks-triple u v label E ∙ f)))))))

      go : (v label : ℕ) → 1 ≤ v → v ≤ n → Dec (label < lo) → Dec (hi < label)
          → if_lt label lo (flag (is_triple E u v label)) 0 ≡ if_lt label (hi + 1) (flag (is_triple E u v label)) 0
      go v label a b (yes h) d = lt_then label lo _ _ h ∙ sym (lt_then label (hi + 1) _ _ (omega arith))
      go v label a b (no h) (yes g) = lt_else label lo _ _ (omega arith) ∙ sym (lt_else label (hi + 1) _ _ (omega arith))
      go v label a b (no h) (no g) =
          lt_else label lo _ _ (omega arith)
          ∙ sym (no_triple v label a b (omega arith) (omega arith) (is_triple E u v label) refl)
          ∙ sym (lt_then label (hi + 1) _ _ (omega arith))

-- The table at the beginning and at the end.
pub marks_begin : (E : List Link) (u n : ℕ) (m : List ℕ) → n ≤ printed_cues → Blank m → MarkedTo E u n 1 m
marks_begin E u n m few b =
    record {
      long = b.long;
      none = λ v x y. b.at (label_places * v) (omega arith);
      at = λ v label x y z w. b.at (label_places * v + label) (omega arith) ∙ sym (lt_else label 1 _ _ (omega arith));
    }

pub marks-end : (E : List Link) (u n : ℕ) (m : List ℕ) → MarkedTo E u n label_places m → Marked E u n m
marks-end E u n m was =
    record { long = was.long; none = was.none; at = λ v label x y z w. was.at v label x y z w ∙ lt_then label label_places _ _ w }

-- A page that holds all of a list.
module _ (vs page after : List ℕ) (r : Listed) (l : IsListed vs page after r) where
  pub page-first : length vs ≤ length page → take r.written after ≡ vs
  unfolding overwrite
  page-first h =
      let w : r.written ≡ length vs = l.written ∙ omega arith in
      rw (w, l.filled, take_all (length page) vs h) (take_at vs (drop (length vs) page) (length vs) refl)

-- What the marks of a label ask for, and what they come to.
module _ (one : ℕ) (bs : List Block) (u : ℕ) (few : count bs ≤ printed_cues) (page after : List ℕ) (r : Listed) (l : IsListed (labelled_cues one one bs u) page after r)
    (long : length page ≡ printed_cues) (n : ℕ) (e : n ≡ r.written) where
  all : take n after ≡ labelled_cues one one bs u
  all = rw e (page-first (labelled_cues one one bs u) page after r l (omega (arith, few-cues one one bs u)))

  pub page-within : Within (take n after)
  page-within =
      record {
        each = λ i h.
            let vs = labelled_cues one one bs u in
            let g : get_or vs i 0 ≡ get_or (take n after) i 0 = rw all refl in
            omega (arith, g, cue-was one one bs u (get_or vs i 0) (get_d_mem vs i (rw all at h)));
      }

  pub label-done : (m w : List ℕ) (label : ℕ) → w ≡ marks_all (take n after) label m → label ≡ one → 1 ≤ one → one < label_places
      → MarkedTo (show_links bs) u (count bs) one m → MarkedTo (show_links bs) u (count bs) (one + 1) w
  label-done m w label f g low high was = rw (f, all, g) (mark_step bs u few one m low high was)

-- A page of one that stays empty.
pub says_none : (vs page after : List ℕ) (r : Listed) → length page ≡ 1 → IsListed vs page after r → Says (ltb 0 r.written) vs
says_none vs page after r one l = record { none = λ e. empty vs (omega (arith, ltb-false 0 r.written e, l.written)) }
  where
    empty : (ws : List ℕ) → length ws ≤ 0 → ws ≡ []
    empty [] h = refl
    empty (w ∷ ws) h = absurd (omega arith)

-- What the marks of a cue start from, and what they come to.
module _ {xs t rows : List ℕ} (u : ℕ) (place : Place) (at : (place.cue ≡ u) × Found xs t rows place) where
  pub aims : Loaded xs t → count (blocks_of xs) ≤ printed_cues → Aims xs t rows place
  aims g few = record { loaded = g; found = at.1; few = few }

  pub cue-done : (m : List ℕ) → TableTo xs place.cue label_places m → Marked (show_links (blocks_of xs)) u (count (blocks_of xs)) m
  cue-done m was = rw at.0 at (marks-end (show_links (blocks_of xs)) place.cue (count (blocks_of xs)) m was)
