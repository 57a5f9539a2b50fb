-- `show_c::show_list_out` meets its contract.
use borrow.Author.Rules.{rules}
use Rattle.show_c.proofs.Telling.{wrote_short, wrote}
use Rattle.show_c.proofs.show_list_out.Goals as goal

pub returns-then-given-lt-GIVEN_SIZE : goal.returns-then-given-lt-GIVEN_SIZE
returns-then-given-lt-GIVEN_SIZE c = wrote_short _ _ _ _ _ (search rules) (search rules)

pub returns : goal.returns
returns c =
    wrote _ _ _ _ _ _ _ _ (search rules) c.list_out.ensures c.tell_page.ensures
