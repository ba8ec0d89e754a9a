-- Several steps at once: the visit of a sequence or choice whose first part is a terminal, that of the terminal, and the return from it. Nothing
-- here is new to a run: `Strode` says that it comes to the same rest. Assumes nothing.
use Rattle.std.specs.Prelude.{List, Bool, true, false, ◌&&◌, ◌≡◌, ℕ, ◌+◌, ◌-◌, ◌<◌, eqb, leb, ltb}
use Rattle.grammar.specs.Words.{kind_at, node_word}
use Rattle.grammar.specs.Run.{byte_stands}
use Rattle.grammar.specs.Answer.{work_words}
use Rattle.frames.specs.Frames.{pushed, in_second}
use Rattle.stages.specs.declared.Stage.{Stage}
use Rattle.stages.specs.declared.Stage.TheVariants as S
use Rattle.stages.specs.declared.Run.{Run}
use Rattle.stages.specs.Stages.{Stepped, with}
use Rattle.machine.specs.Drive.{weight, driven}

-- some steps of a run that goes on: it comes to the same rest, and is nearer to it
pub record Strode (words literals message : List ℕ) (budget : ℕ) (s t : Stepped) : Type 0 where
  pub same : driven words literals message budget t ≡ driven words literals message budget s
  pub less : weight budget t.run < weight budget s.run

-- node k is a sequence or a choice whose first part is a terminal
unfoldable pub terminal_first : List ℕ → ℕ → Bool
terminal_first words k = leb 3 (kind_at words k) && (leb (kind_at words k) 4 && eqb (kind_at words (node_word words k 1)) 2)

-- two more visits are left, one inside the other, and the work area has all its frames
unfoldable pub two_left : (budget room : ℕ) → Run → Bool
two_left budget room r = leb work_words room && (ltb r.frames 255 && (ltb r.visits budget && ltb 1 (budget - r.visits)))

-- two visits more, at a stage and a position, with so many frames
abbrev pub twice_visited : Run → Stage → (at frames : ℕ) → Run
twice_visited r stage at frames = record { stage = stage; at = at; frames = frames; visits = r.visits + 2 }

-- the first part, a terminal, has come back to a sequence (true) or a choice, and its byte stood there or didn't
unfoldable pub came_back : (sequence stands : Bool) (b : ℕ) → Run → List ℕ → Stepped
came_back true true b r w = with (twice_visited r (S.Enter b) (r.at + 1) (r.frames + 1)) (in_second w r.frames)
came_back true false b r w = with (twice_visited r S.Failed r.at r.frames) w
came_back false true b r w = with (twice_visited r S.Matched (r.at + 1) r.frames) w
came_back false false b r w = with (twice_visited r (S.Enter b) r.at (r.frames + 1)) (in_second w r.frames)

-- both visits of node k, and the return
unfoldable pub both_visited : (words message : List ℕ) (k : ℕ) → Run → List ℕ → Stepped
both_visited words message k r w =
    let byte = node_word words (node_word words k 1) 1 in
    came_back (eqb (kind_at words k) 3) (byte_stands message r.at byte && ltb r.at 65535) (node_word words k 2) r (pushed w r.frames k r.at)
