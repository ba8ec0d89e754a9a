use Rattle.text.proofs.Keys.{key_starts, key_missing}
use mathlib.Core.Path.{refl}
use Rattle.text.proofs.after_key.Goals as goal

pub returns-then-starts_with : goal.returns-then-starts_with
returns-then-starts_with c = key_starts _ _ _ c.get.result _ _ _ c.get.ensures.lookup.0 c.unwrap_or-rest.ensures refl c.starts_with.ensures.value c.if-starts_with.true

pub returns : goal.returns
returns c = key_missing _ _ _ c.get.result _ _ _ c.get.ensures.lookup.0 c.unwrap_or-rest.ensures refl c.starts_with.ensures.value c.if-starts_with.false
