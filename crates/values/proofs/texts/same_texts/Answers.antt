use Rattle.grammar.specs.Values.{same_texts, text_bytes}
use Rattle.values.proofs.HandedOut.{same_pointwise}
use Rattle.values.proofs.texts.same_texts.Goals as goal

pub returns : goal.returns
unfolding same_texts text_bytes
returns c = rw (c.eq.ensures, same_pointwise, c.text_bytes-x.ensures.bytes, c.text_bytes-y.ensures.bytes)
