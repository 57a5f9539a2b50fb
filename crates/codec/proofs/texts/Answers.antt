-- The table is computed.
use mathlib.Core.Path.{refl}
use Rattle.model.specs.Choice.{if_lt}
use Rattle.model.specs.Values.{digits, digit_at}
use Rattle.codec.specs.Writing.{value_text, four_bytes, short_text, short_texts}
use Rattle.codec.proofs.texts.Goals as goal

pub returns : goal.returns
unfolding short_texts short_text four_bytes value_text digits digit_at if_lt
returns c = refl
