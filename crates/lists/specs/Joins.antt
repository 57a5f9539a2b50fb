-- The linked cues that the joins of a copy meet, in rising order.
use Rattle.std.specs.Prelude.{ℕ, ◌+◌, ◌-◌, ◌≤◌, ◌<◌, ◌≡◌, min, List, ◌++◌, length, get_or, None, Some as Just}
use Rattle.std.specs.declared.option.Option.{Option}
use Rattle.model.specs.Choice.{if_lt, if_eq}
use Rattle.model.specs.Blocks.{Link}
use Rattle.neighbours.specs.declared.Ask.{Ask}
use Rattle.neighbours.specs.Picks.{Picked, wanted}
use Rattle.lists.specs.Pages.{Gives}

-- The lesser of x and y, or y where there is no x.
unfoldable pub least : ℕ → Option ℕ → ℕ
least y None = y
least y (Just x) = min x y

-- The same, where y counts only if it is marked and above last.
unfoldable pub lesser : ℕ → ℕ → ℕ → Option ℕ → Option ℕ
lesser flag y last x = if_eq flag 1 (if_lt last y (Just (least y x)) x) x

-- Join j is marked and meets u.
pub record Met (s : List ℕ) (joins : ℕ) (met : List ℕ) (u : ℕ) : Type 0 where
  pub j : ℕ
  pub within : j < joins
  pub flag : get_or s j 0 ≡ 1
  pub meets : get_or met j 0 ≡ u

-- x is the least cue above last that a marked join meets, if there is one.
pub record Next (s : List ℕ) (joins : ℕ) (met : List ℕ) (last : ℕ) (x : Option ℕ) : Type 0 where
  pub none : x ≡ None → (u : ℕ) → Met s joins met u → u ≤ last
  pub above : (c : ℕ) → x ≡ Just c → last < c
  pub found : (c : ℕ) → x ≡ Just c → Met s joins met c
  pub least : (c : ℕ) → x ≡ Just c → (u : ℕ) → Met s joins met u → last < u → c ≤ u

-- The marked joins meet just those cues up to base that the links E join to v.
pub record MeetsJust (q : Ask) (E : List Link) (v base : ℕ) (s : List ℕ) (joins : ℕ) (met : List ℕ) : Type 0 where
  pub to : (u : ℕ) → Met s joins met u → Picked q E v u
  pub low : (u : ℕ) → Met s joins met u → u ≤ base
  pub back : (u : ℕ) → u ≤ base → Picked q E v u → Met s joins met u

-- After some of them were given: what was given, and what is left.
pub record Some (q : Ask) (E : List Link) (v base last : ℕ) (page : List ℕ) (w : ℕ) (after : List ℕ) (g : ℕ) : Type 0 where
  pub done : List ℕ
  pub gives : Gives q.room page w done after g
  pub left : wanted q E v 0 base ≡ done ++ wanted q E v last (base - last)

pub record JoinsGoing (q : Ask) (s : List ℕ) (joins : ℕ) (met : List ℕ) (last : ℕ) (page : List ℕ) (w : ℕ) (after : List ℕ) (g : ℕ) : Type 0 where
  pub long : length after ≡ length page
  pub bound : g ≤ q.room + 1
  pub high : q.after ≤ last
  pub some : (E : List Link) (v base : ℕ) → MeetsJust q E v base s joins met → Some q E v base last page w after g

-- After all of them.
pub record JoinsDone (q : Ask) (s : List ℕ) (joins : ℕ) (met : List ℕ) (page : List ℕ) (w : ℕ) (after : List ℕ) (g : ℕ) : Type 0 where
  pub long : length after ≡ length page
  pub bound : g ≤ q.room + 1
  pub all : (E : List Link) (v base : ℕ) → MeetsJust q E v base s joins met → Gives q.room page w (wanted q E v 0 base) after g
