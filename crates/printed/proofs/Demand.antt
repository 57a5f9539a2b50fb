-- The library behind the unfolding program makes the text that document 01 demands.
use Rattle.demands.proofs.Printed.{is-printed}
use Rattle.demands.proofs.OneText.{one-text}
use Rattle.printed.specs.Demand.{PrintsAsDemanded}
use Rattle.printed.proofs.Complete.{whole-text}

pub prints_as_demanded : PrintsAsDemanded
prints_as_demanded =
    record {
      whole = λ file rows t out r b e. rw (b.whole e) (is-printed file);
      parts = λ file rows t out m text r k b e run. rw (whole-text file rows t out m text r k b e run) (is-printed file);
      one = one-text;
    }
