-- Laws of the walk: what each part of it gives to the page.
use Prim.Native.Nat.{ℕ, zero, suc, ◌+◌, ◌-◌, ◌≤◌, ◌<◌}
use native.Mathlib.Omega.{arith}
use native.Mathlib.Decide.{ℕ_discrete, dec_lt}
use mathlib.Core.Path.{◌≡◌, refl, sym, ◌∙◌, ap}
use mathlib.Core.List.{List, [], ◌++◌, append-nil}
use lib.ListN.{length, get_or}
use Rattle.std.specs.Prelude.{Some, None}
use Rattle.std.proofs.lemmas.Option.{none-some, same_Some}
use Rattle.model.specs.Limits.{max_joins, max_total}
use Rattle.model.specs.Blocks.{Link, Block, block_at, joins_of, own_of, total, blocks_of}
use Rattle.model.specs.Unfolding.{links}
use Rattle.shows.proofs.AtBlock.{joins-small}
use Rattle.basics.proofs.Choices.{lt_then, lt_else, eq_then, eq_else}
use Rattle.shows.specs.Copies.{Part, Copy, number, all-links, meets, copy_of, Sound, IsPart}
use Rattle.shows.proofs.BlockAt.{links-at, own_of_at, joins_of-at, total-at}
use Rattle.shows.proofs.Locality.{part_sound}
use Rattle.verdicts.specs.Index.{use_at}
use Rattle.blocks.specs.Loaded.{Loaded, UseRows, UseRow, IsJoinAt}
use Rattle.blocks.proofs.Loaded.{loaded-show, used_block}
use Rattle.blocks.proofs.Meeting.{use_many, use_arity, use_meets, use_apart}
use Rattle.neighbours.specs.declared.Ask.{Ask}
use Rattle.neighbours.specs.Picks.{wanted}
use Rattle.neighbours.specs.Near.{KnownOwn, Done, RecordsReady}
use Rattle.neighbours.specs.Records.{inside_at, bits_at, record_at, own_bit}
use Rattle.neighbours.proofs.Picked.{wanted-append, wanted-nil, wanted-yes, wanted-not, wanted-under, wanted-low}
use Rattle.neighbours.proofs.Near.{wanted-part, wanted-apart, wanted-clear, join_number, met_at}
use Rattle.lists.specs.declared.Visit.{Visit}
use Rattle.lists.specs.declared.Inner.{Inner}
use Rattle.lists.specs.Pages.{Gives}
use Rattle.lists.specs.Walks.{step_list, own_list, used_by, MayVisit, MayEnter, Walked, UsesWalked, Entered, Door, UsesGoing}
use Rattle.lists.proofs.Filled.{gives_nil, gives-full, gives-append}
use Rattle.copies.proofs.Bases.{inner_base-begin, inner_base-on, inner_base-done, inner-part, inner-fits}

-- The own cues of a copy.
module _ (q : Ask) (bs : List Block) (m : List ℕ) (at k base : ℕ) (met : List ℕ) (g : Sound (copy_of bs k base met)) (c : ℕ) (known : KnownOwn q bs m at k c) where
  abbrev E : List Link
  E = links bs k base met

  abbrev v : ℕ
  v = number (copy_of bs k base met) c

  one : (d : ℕ) → suc d ≤ own_of bs k → wanted q E v base (suc d) ≡ wanted q E v base d ++ step_list q (own_bit m (at + bits_at) (suc d)) (base + suc d)
  unfolding step_list
  one d h = go (ℕ_discrete (own_bit m (at + bits_at) (suc d)) 1) (dec_lt q.after (base + suc d))
    where
      skip : step_list q (own_bit m (at + bits_at) (suc d)) (base + suc d) ≡ [] → wanted q E v base (suc d) ≡ wanted q E v base d
          → wanted q E v base (suc d) ≡ wanted q E v base d ++ step_list q (own_bit m (at + bits_at) (suc d)) (base + suc d)
      skip e w = w ∙ sym (ap (λ zs. wanted q E v base d ++ zs) e ∙ append-nil (wanted q E v base d))

      go : Dec (own_bit m (at + bits_at) (suc d) ≡ 1) → Dec (q.after < base + suc d)
          → wanted q E v base (suc d) ≡ wanted q E v base d ++ step_list q (own_bit m (at + bits_at) (suc d)) (base + suc d)
      go (yes f) (yes l) =
          wanted-yes q v E base d l ((known.own base met g (suc d) (omega arith) h).0 f)
          ∙ ap (λ zs. wanted q E v base d ++ zs) (sym (eq_then (own_bit m (at + bits_at) (suc d)) 1 _ _ f ∙ lt_then q.after (base + suc d) _ _ l))
      go (yes f) (no l) =
          skip (eq_then (own_bit m (at + bits_at) (suc d)) 1 _ _ f ∙ lt_else q.after (base + suc d) _ _ (omega arith))
          (wanted-under q v E base d (omega arith))
      go (no f) e =
          skip (eq_else (own_bit m (at + bits_at) (suc d)) 1 _ _ f)
          (wanted-not q v E base d (λ p. f ((known.own base met g (suc d) (omega arith) h).1 p)))

  own-wanted : (d : ℕ) → d ≤ own_of bs k → own_list q m (at + bits_at) base d ≡ wanted q E v base d
  unfolding own_list
  own-wanted zero h = sym (wanted-nil q v E base)
  own-wanted (suc d) h = ap (λ zs. zs ++ step_list q (own_bit m (at + bits_at) (suc d)) (base + suc d)) (own-wanted d (omega arith)) ∙ sym (one d h)

pub walked-own : (q : Ask) (xs m : List ℕ) (at : ℕ) (y : Visit) (p : List ℕ) (w : ℕ) (p' : List ℕ) (own wide g : ℕ)
    → KnownOwn q (blocks_of xs) m at y.block y.cue → own ≡ own_of (blocks_of xs) y.block → wide ≡ own
    → Gives q.room p w (own_list q m (at + bits_at) y.base wide) p' g → Walked q xs y y.base p w (own_of (blocks_of xs) y.block) p' g
walked-own q xs m at y p w p' own wide g known a b gives =
    record {
      long = gives.long;
      bound = gives.bound;
      gives = λ met sound.
          let e : wide ≡ own_of (blocks_of xs) y.block = b ∙ a in
          rw (← own-wanted q (blocks_of xs) m at y.block y.base met sound y.cue known (own_of (blocks_of xs) y.block) (omega arith)) (rw e at gives);
    }

pub own-fits : (q : Ask) (xs t : List ℕ) (y : Visit) (p : List ℕ) (w own wide : ℕ) → Loaded xs t → MayVisit q xs y p w
    → own ≡ own_of (blocks_of xs) y.block → wide ≡ own → y.base + wide ≤ max_total
own-fits q xs t y p w own wide g may a b =
    omega (arith, may.small, total-at (blocks_of xs) (loaded-show g).good y.block 0 [], own_of_at (blocks_of xs) y.block)

-- Nothing to give in the copy of a use.
module _ (q : Ask) (xs : List ℕ) (y : Inner) (w : ℕ) (may : MayEnter q xs y w) where
  abbrev bs : List Block
  bs = blocks_of xs

  abbrev part : Part
  part = record { of = use_at xs bs y.row; base = y.base }

  door_shut : ((page : List ℕ) → Entered q xs y page w page w) → Door q xs y w None
  door_shut h = record { shut = λ e. h; within = λ i e. absurd (none-some i e); meets = λ i e. absurd (none-some i e) }

  door_nil : ((base : ℕ) (met : List ℕ) → Sound (copy_of bs y.block base met) → IsPart (copy_of bs y.block base met) part
      → wanted q (all-links (copy_of bs y.block base met)) (number (copy_of bs y.block base met) y.cue) y.base (total bs (used_by xs y)) ≡ [])
      → Door q xs y w None
  door_nil h =
      door_shut
      (λ page. record {
        long = refl;
        bound = may.bound;
        gives = λ base met sound here. gives_nil q.room page w _ (rw (links-at bs sound.good y.block base met) (h base met sound here)) may.bound;
      })

  pub door_full : q.room < w → Door q xs y w None
  door_full h =
      door_shut (λ page. record { long = refl; bound = may.bound; gives = λ base met sound here. gives-full q.room page w _ h may.bound })

  pub door_low : (size : ℕ) → size ≡ total bs (used_by xs y) → y.base + size ≤ q.after → Door q xs y w None
  door_low size e h = door_nil (λ base met sound here. wanted-low q _ _ y.base _ (omega arith))

  module _ (m : List ℕ) (j joins i : ℕ) (o : UseRow xs y.block y.row) (e : j ≡ used_by xs y) (n : joins ≡ joins_of bs j) (few : joins ≤ max_joins)
      (p : IsJoinAt xs y.row joins y.cue i) where
    pub door_apart : joins ≤ i → Door q xs y w None
    door_apart h =
        door_nil
        (λ base met sound here. wanted-apart q bs m y.block base met sound part here y.cue
        (omega (arith, may.low, may.high, own_of_at bs y.block, joins_of-at bs y.block))
        (λ a l z. use_apart o e n p a h l z))

    pub door_clear : RecordsReady q bs m y.block y.cue → i < joins → (get_or m (record_at j i + inside_at) 0 ≡ 1 → ⊥) → Door q xs y w None
    door_clear tab h f =
        door_nil
        (λ base met sound here. wanted-clear q bs m y.block base met sound part here y.cue i tab
        (omega (arith, use_arity o e n p))
        (use_meets o e n p h) (rw e at f))

    pub door_open : i < joins → Door q xs y w (Some i)
    door_open h =
        record {
          shut = λ z. absurd (none-some i (sym z));
          within = λ a z. let f : a ≡ i = same_Some a i (sym z) in rw f (omega (arith, use_many o e n p));
          meets = λ a z. let f : a ≡ i = same_Some a i (sym z) in rw f (p.found h);
        }

-- The copy of a use is not walked, or walked.
module _ (q : Ask) {xs t : List ℕ} (g : Loaded xs t) (y : Inner) (w i : ℕ) (o : UseRow xs y.block y.row) (door : Door q xs y w (Some i)) where
  pub door_small : i < max_joins
  door_small = omega (arith, door.within i refl, joins-small (used_by xs y) (loaded-show g).small)

  arity : i < length (use_at xs (blocks_of xs) y.row).at
  arity = omega (arith, o.good.arity, door.within i refl)

  at-cue : get_or (use_at xs (blocks_of xs) y.row).at i 0 ≡ y.cue
  at-cue = o.columns i (door.within i refl) ∙ door.meets i refl

  module _ (j own d : ℕ) (e : j ≡ used_by xs y) (n : own ≡ own_of (blocks_of xs) j) (cue : d ≡ own + 1 + i) where
    abbrev inside : Visit
    inside = record { block = j; base = y.base; cue = d }

    at_join : i < joins_of (blocks_of xs) j
    at_join = rw e (door.within i refl)

    pub may_visit_enter : (page : List ℕ) (f : ℕ) → MayEnter q xs y w → q.room ≤ length page → f ≤ q.room + 1 → MayVisit q xs inside page f
    may_visit_enter page f may l b =
        record {
          known = used_block j o e;
          low = omega arith;
          high = omega (arith, at_join);
          small = rw e may.small;
          room = (l, may.fits, b);
        }

    made : (m : List ℕ) → RecordsReady q (blocks_of xs) m y.block y.cue → Done m j i
    made m tab = rw e ((tab.done.at (use_at xs (blocks_of xs) y.row) o.member).at i arity at-cue)

    pub known_own_enter : (m : List ℕ) → RecordsReady q (blocks_of xs) m y.block y.cue → KnownOwn q (blocks_of xs) m (record_at j i) j d
    known_own_enter m tab = rw (cue, n) (tab.table.exact j i at_join (made m tab)).known

    pub records_ready_enter : (m : List ℕ) → RecordsReady q (blocks_of xs) m y.block y.cue → RecordsReady q (blocks_of xs) m j d
    records_ready_enter m tab = record { table = tab.table; done = rw (cue, n) (tab.table.closed j i at_join (made m tab)) }

    pub entered-walk : (page after : List ℕ) (f : ℕ) → Walked q xs inside y.base page w (total (blocks_of xs) j) after f → Entered q xs y page w after f
    entered-walk page after f walked =
        record {
          long = walked.long;
          bound = walked.bound;
          gives = λ base met sound part.
              let p : Part = record { of = use_at xs (blocks_of xs) y.row; base = y.base } in
              let z : Copy = copy_of (blocks_of xs) y.block base met in
              let sound-in : Sound (copy_of (blocks_of xs) (used_by xs y) y.base (meets z p)) = part_sound sound p part in
              let number_in : number (copy_of (blocks_of xs) (used_by xs y) y.base (meets z p)) d ≡ number z y.cue =
              rw cue-at
              (join_number q (blocks_of xs) [] (used_by xs y) y.base (meets z p) sound-in i ∙ met_at q (blocks_of xs) [] y.block base met sound p i y.cue arity at-cue) in
              rw (links-at (blocks_of xs) sound.good y.block base met, wanted-part q (blocks_of xs) [] y.block base met sound p part (number z y.cue), ← number_in)
              (rw e at walked.gives (meets z p) sound-in);
        }
      where
        cue-at : d ≡ (block_at (blocks_of xs) (used_by xs y)).own + 1 + i
        cue-at = let f : own ≡ own_of (blocks_of xs) (used_by xs y) = rw e at n in omega (arith, own_of_at (blocks_of xs) (used_by xs y))

-- The uses of a copy, up to one more.
module _ (q : Ask) {xs t : List ℕ} (g : Loaded xs t) (y : Visit) {a e : ℕ} (rows : UseRows xs t y.block a e) (page : List ℕ) (w : ℕ) where
  abbrev o : ℕ
  o = y.base + own_of (blocks_of xs) y.block

  pub may_enter_on : (r b f v : ℕ) (after first : List ℕ) → MayVisit q xs y first v → a ≤ r → r < e → UsesGoing q xs t y page w r b after f
      → MayEnter q xs (record { block = y.block; row = r; base = b; cue = y.cue }) f
  may_enter_on r b f v after first may h l go =
      record {
        low = may.low;
        high = may.high;
        small = omega (arith, may.small, go.at, inner-fits g y.block y.base rows r h l);
        fits = may.room.1;
        bound = go.walked.bound;
      }

  pub next_small : (r b f size v : ℕ) (after first : List ℕ) → MayVisit q xs y first v → a ≤ r → r < e → UsesGoing q xs t y page w r b after f
      → size ≡ total (blocks_of xs) (use_at xs (blocks_of xs) r).block → b + size ≤ max_total
  next_small r b f size v after first may h l go z = omega (arith, may.small, go.at, inner-fits g y.block y.base rows r h l)

  pub uses_going_begin : (own : ℕ) → own ≡ own_of (blocks_of xs) y.block → w ≤ q.room + 1 → UsesGoing q xs t y page w a (y.base + own) page w
  uses_going_begin own z l =
      let m : y.base + own - o ≡ 0 = omega arith in
      record {
        at = inner_base-begin g y.block y.base rows own z;
        walked = record { long = refl; bound = l; gives = λ met sound. rw m (gives_nil q.room page w _ (wanted-nil q _ _ _) l) };
      }

  pub uses_going_on : (r b f h size : ℕ) (p₁ p₂ : List ℕ) → a ≤ r → r < e → UsesGoing q xs t y page w r b p₁ f
      → Entered q xs (record { block = y.block; row = r; base = b; cue = y.cue }) p₁ f p₂ h → size ≡ total (blocks_of xs) (use_at xs (blocks_of xs) r).block
      → UsesGoing q xs t y page w (r + 1) (b + size) p₂ h
  uses_going_on r b f h size p₁ p₂ x l go entered z =
      record {
        at = omega (arith, go.at, inner_base-on g y.block y.base rows r x l);
        walked = record {
          long = entered.long ∙ go.walked.long;
          bound = entered.bound;
          gives = λ met sound.
              let u : o + (b - o) ≡ b = omega (arith, go.at) in
              let n : b + size - o ≡ (b - o) + total (blocks_of xs) (use_at xs (blocks_of xs) r).block = omega (arith, go.at) in
              let v : ℕ = number (copy_of (blocks_of xs) y.block y.base met) y.cue in
              rw (n, wanted-append q v (links (blocks_of xs) y.block y.base met) o (b - o) (total (blocks_of xs) (use_at xs (blocks_of xs) r).block), u)
              (gives-append q.room page w _ _ p₁ p₂ f h (go.walked.gives met sound)
              (entered.gives y.base met sound (rw go.at (inner-part g y.block y.base rows r x l met))));
        };
      }

  -- After all uses the copy is walked.
  pub uses_going_done : (r b f : ℕ) (after : List ℕ) → r ≤ e → e ≤ r → UsesGoing q xs t y page w r b after f → UsesWalked q xs y page w after f
  uses_going_done r b f after x z go =
      record {
        long = go.walked.long;
        bound = go.walked.bound;
        whole = λ first v own.
            let n : r ≡ e = omega arith in
            let s : b ≡ y.base + total (blocks_of xs) y.block = go.at ∙ rw n (inner_base-done g y.block y.base rows) in
            let d : total (blocks_of xs) y.block ≡ own_of (blocks_of xs) y.block + (b - o) =
            omega (arith, s, total-at (blocks_of xs) (loaded-show g).good y.block 0 [], own_of_at (blocks_of xs) y.block) in
            record {
              long = go.walked.long ∙ own.long;
              bound = go.walked.bound;
              gives = λ met sound.
                  rw (d, wanted-append q (number (copy_of (blocks_of xs) y.block y.base met) y.cue) (links (blocks_of xs) y.block y.base met) y.base (own_of (blocks_of xs) y.block) (b - o))
                  (gives-append q.room first v _ _ page after w f (own.gives met sound) (go.walked.gives met sound));
            };
      }

-- A copy of a block without uses has no cues but its own.
pub walked-leaf : (q : Ask) {xs t : List ℕ} (g : Loaded xs t) (y : Visit) {a e : ℕ} (rows : UseRows xs t y.block a e) (page : List ℕ) (w : ℕ)
    (after : List ℕ) (f : ℕ) → a ≡ e → Walked q xs y y.base page w (own_of (blocks_of xs) y.block) after f
    → Walked q xs y y.base page w (total (blocks_of xs) y.block) after f
walked-leaf q {xs} g y {a} {e} rows page w after f same walked =
    (uses_going_done q g y rows after f a _ f after (omega arith) (omega arith) (uses_going_begin q g y rows after f _ refl walked.bound)).whole page w walked
