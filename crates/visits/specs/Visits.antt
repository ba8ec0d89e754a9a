-- A visit, in words: what it does to the run record and to the work area (document 01, 'Running'). Assumes nothing.
use Rattle.std.specs.Prelude.{List, [], ◌∷◌, Result, Ok, Err, Bool, true, false, cond, ◌&&◌, ℕ, ◌+◌, ltb}
use Rattle.grammar.specs.declared.Value.{Value}
use Rattle.grammar.specs.declared.Value.TheVariants as Val
use Rattle.grammar.specs.declared.Node.{Node}
use Rattle.grammar.specs.declared.Node.TheVariants as N
use Rattle.grammar.specs.Words.{word, rule_word, inherited_count, node_at}
use Rattle.grammar.specs.Values.{Evaluated, value, ends}
use Rattle.grammar.specs.Run.{byte_stands, Due, fine, no_budget, too_deep}
use Rattle.frames.specs.Frames.{written, pushed}
use Rattle.grammar.specs.declared.Ended.{Ended}
use Rattle.calls.specs.Calls.{inherited, evaluated, evaluated_four}
use Rattle.stages.specs.declared.Stage.{Stage}
use Rattle.stages.specs.declared.Stage.TheVariants as S
use Rattle.stages.specs.declared.Run.{Run}
use Rattle.stages.specs.Stages.{Stepped, with, moved, staged, ended_at}

-- a visit made is counted
abbrev pub visited : Run → Run
visited r = record { stage = r.stage; at = r.at; frames = r.frames; visits = r.visits + 1 }

-- ════ Leaves ════

-- a terminal matches where its byte stands; positions are at most 65,535
unfoldable pub consumed : Bool → Run → Run
consumed true r = moved r S.Matched (r.at + 1) r.frames
consumed false r = staged r S.Failed

-- 'Update, bind and call set slots at run time without looking at types'
unfoldable pub updated : Evaluated Value → ℕ → Run → List ℕ → Stepped
updated (value v) s r w = with (staged r S.Matched) (written w s v)
updated (ends why j) s r w = with (staged r (ended_at why j)) w

-- 'a constraint isn't Bool (the constraint)'
unfoldable pub judged : Value → ℕ → Stage
judged Val.Absent k = S.Stuck k
judged (Val.Bool b) k = cond b S.Matched S.Failed
judged (Val.Integer z) k = S.Stuck k
judged (Val.Text s) k = S.Stuck k

unfoldable pub constrained : Evaluated Value → ℕ → Run → Run
constrained (value v) k r = staged r (judged v k)
constrained (ends why j) k r = staged r (ended_at why j)

-- ════ Nodes with parts, and calls ════

-- a frame for node k, and a visit of a part is due
unfoldable pub opened : (k part : ℕ) → Run → List ℕ → Stepped
opened k part r w = with (moved r (S.Enter part) r.at (r.frames + 1)) (pushed w r.frames k r.at)

-- 'A call evaluates its arguments, runs the body in fresh slots'
unfoldable pub called : Result (List Value) Ended → (body k : ℕ) → Run → List ℕ → Stepped
called (Ok values) body k r w = with (moved r (S.Enter body) r.at (r.frames + 1)) (inherited values (pushed w r.frames k r.at))
called (Err end) body k r w = with (staged r (ended_at end.why end.node)) w

module _ (words literals message : List ℕ) where
  -- the call whose record lies at a place
  abbrev pub called_at : (place k : ℕ) → Run → List ℕ → Stepped
  called_at place k r w =
      let field : ℕ → ℕ = λ j. word words (place + j) in
      called (evaluated_four words literals message (inherited_count words (field 1)) (field 2 ∷ field 3 ∷ field 4 ∷ field 5 ∷ []) w) (rule_word words (field 1) 0) k r w

  -- the visit of node k. A node that is no parsing node does as an empty one
  unfoldable pub begun : Node → ℕ → Run → List ℕ → Stepped
  begun N.Unknown k r w = with (staged r S.Matched) w
  begun N.Empty k r w = with (staged r S.Matched) w
  begun (N.Terminal byte) k r w = with (consumed (byte_stands message r.at byte && ltb r.at 65535) r) w
  begun (N.Sequence a b) k r w = opened k a r w
  begun (N.Choice a b) k r w = opened k a r w
  begun (N.Repeat a) k r w = opened k a r w
  begun (N.Not a) k r w = opened k a r w
  begun (N.Call q a b c d s t u v) k r w = called (evaluated_four words literals message (inherited_count words q) (a ∷ b ∷ c ∷ d ∷ []) w) (rule_word words q 0) k r w
  begun (N.Bind s a) k r w = opened k a r w
  begun (N.Update s e) k r w = updated (evaluated words literals message e w) s r w
  begun (N.Constraint e) k r w = with (constrained (evaluated words literals message e w) k r) w
  begun (N.Bool b) k r w = with (staged r S.Matched) w
  begun (N.Integer z) k r w = with (staged r S.Matched) w
  begun (N.Text start length) k r w = with (staged r S.Matched) w
  begun (N.Slot s) k r w = with (staged r S.Matched) w
  begun (N.Binary op a b) k r w = with (staged r S.Matched) w
  begun (N.Negation a) k r w = with (staged r S.Matched) w

  -- a visit of node k is due: 'a visit not made isn't counted'. With no budget left the run rests
  unfoldable pub admitted : Due → ℕ → Run → List ℕ → Stepped
  admitted fine k r w = begun (node_at words k) k (visited r) w
  admitted no_budget k r w = with r w
  admitted too_deep k r w = with (staged r (S.Deep k)) w
