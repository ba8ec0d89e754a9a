-- Bench cases A to O of document 01, as one list, and one claim: the written meaning gives each its answer. Assumes nothing.
use Rattle.std.specs.Prelude.{Err, get_or}
use mathlib.Core.Path.{◌≡◌, refl}
use mathlib.Core.List.{List, [], ◌∷◌, ◌++◌, map}
use mathlib.Core.Bool.{false}
use Prim.Native.Nat.{ℕ, ◌-◌}
use lib.IntN.{pos, negsuc}
use lib.ListN.{length, replicate}
use Rattle.grammar.specs.declared.Value.{Value}
use Rattle.grammar.specs.declared.Value.TheVariants as Val
use Rattle.grammar.specs.declared.Answer.{Answer}
use Rattle.grammar.specs.declared.Mode.{Mode}
use Rattle.grammar.specs.declared.Mode.TheVariants.{Bench, Display}
use Rattle.laws.specs.Counting.{tabulate, smallest_failing, how_many}
use Rattle.laws.specs.Same.{same}
use Rattle.grammar.specs.Numbers.{DONE, TYPE, NOMATCH, BUDGET, DEEP, STUCK, FAULT}
use Rattle.grammar.specs.Words.{signed, nodes, node_for, node_at}
use Rattle.grammar.specs.Tree.{node, expr_of, parsing_of, expr_with, expr_at, parsing_with, parsing_at, rule_at, grammar_of}
use Rattle.grammar.specs.Form as F
use Rattle.grammar.specs.Types as T
use Rattle.grammar.specs.Values as L
use Rattle.grammar.specs.Run as R
use Rattle.grammar.specs.Answer as A
use Rattle.grammar.specs.declared.Refusal.TheVariants.{Untyped}
use Rattle.grammar.specs.Form.{Verdict, passed}
use Rattle.grammar.specs.Values.{text_bytes}
use Rattle.grammar.specs.Answer.{answered, answer, type_check, work_words}

-- a record of so many words, from those at its start: the others are 0
abbrev pub record' : ℕ → List ℕ → List ℕ
record' n ws = ws ++ replicate (n - length ws) 0

abbrev pub records : ℕ → List (List ℕ) → List ℕ
records n [] = []
records n (ws ∷ wss) = record' n ws ++ records n wss

-- a table of one rule without literals: its record, and its nodes' records
abbrev pub table : List ℕ → List (List ℕ) → List ℕ
table rule ns = (1 ∷ length ns ∷ 0 ∷ []) ++ (record' 15 rule ++ records 10 ns)

-- a rule that returns nothing, and one that returns a node of a type
abbrev pub body : ℕ → List ℕ
body b = b ∷ []

abbrev pub returning : ℕ → ℕ → ℕ → List ℕ
returning b e t = b ∷ 0 ∷ 0 ∷ 0 ∷ 0 ∷ 0 ∷ 1 ∷ e ∷ 0 ∷ 0 ∷ 0 ∷ t ∷ []

-- node records, by their kinds' names
abbrev pub empty : List ℕ
empty = 1 ∷ []

abbrev pub terminal : ℕ → List ℕ
terminal a = 2 ∷ a ∷ []

abbrev pub repeat : ℕ → List ℕ
repeat a = 5 ∷ a ∷ []

abbrev pub unless : ℕ → List ℕ
unless a = 6 ∷ a ∷ []

abbrev pub call : ℕ → List ℕ
call a = 7 ∷ a ∷ []

abbrev pub constraint : ℕ → List ℕ
constraint a = 10 ∷ a ∷ []

abbrev pub bool : ℕ → List ℕ
bool a = 16 ∷ a ∷ []

abbrev pub slot : ℕ → List ℕ
slot a = 19 ∷ a ∷ []

abbrev pub sequence : ℕ → ℕ → List ℕ
sequence a b = 3 ∷ a ∷ b ∷ []

abbrev pub choice : ℕ → ℕ → List ℕ
choice a b = 4 ∷ a ∷ b ∷ []

abbrev pub bind : ℕ → ℕ → List ℕ
bind a b = 8 ∷ a ∷ b ∷ []

abbrev pub update : ℕ → ℕ → List ℕ
update a b = 9 ∷ a ∷ b ∷ []

abbrev pub integer : ℕ → ℕ → List ℕ
integer a b = 17 ∷ a ∷ b ∷ []

abbrev pub add : ℕ → ℕ → List ℕ
add a b = 20 ∷ a ∷ b ∷ []

abbrev pub divide : ℕ → ℕ → List ℕ
divide a b = 23 ∷ a ∷ b ∷ []

abbrev pub equal : ℕ → ℕ → List ℕ
equal a b = 24 ∷ a ∷ b ∷ []

abbrev pub greater : ℕ → ℕ → List ℕ
greater a b = 25 ∷ a ∷ b ∷ []

abbrev pub conjunction : ℕ → ℕ → List ℕ
conjunction a b = 26 ∷ a ∷ b ∷ []

-- ════ The tables ════

unfoldable pub table_a : List ℕ
table_a = table (returning 1 2 3) (terminal 71 ∷ bind 0 0 ∷ slot 0 ∷ [])

-- x←1, x←true
table_e : List ℕ
table_e = table (body 4) (integer 0 1 ∷ update 0 0 ∷ bool 1 ∷ update 0 2 ∷ sequence 1 3 ∷ [])

-- ('1' x←1) / ('2' x←2)
table_f : List ℕ
table_f = table (returning 8 9 2)
    (terminal 49 ∷ integer 0 1 ∷ update 0 1 ∷ sequence 0 2
    ∷ terminal 50 ∷ integer 0 2 ∷ update 0 5 ∷ sequence 4 6
    ∷ choice 3 7 ∷ slot 0 ∷ [])

-- ('1' x←1) / '2' returning x
table_g : List ℕ
table_g = table (returning 5 6 2)
    (terminal 49 ∷ integer 0 1 ∷ update 0 1 ∷ sequence 0 2 ∷ terminal 50 ∷ choice 3 4 ∷ slot 0 ∷ [])

-- x←0, !!(x←1)
table_h : List ℕ
table_h = table (returning 6 7 2)
    (integer 0 0 ∷ update 0 0 ∷ integer 0 1 ∷ update 0 2 ∷ unless 3 ∷ unless 4 ∷ sequence 1 5 ∷ slot 0 ∷ [])

-- empty repeated
table_i : List ℕ
table_i = table (body 1) (empty ∷ repeat 0 ∷ [])

-- x←0, (?(3>x) x←x+1)*
table_j : List ℕ
table_j = table (returning 12 13 2)
    (integer 0 0 ∷ update 0 0
    ∷ integer 0 3 ∷ slot 0 ∷ greater 2 3 ∷ constraint 4
    ∷ slot 0 ∷ integer 0 1 ∷ add 6 7 ∷ update 0 8
    ∷ sequence 5 9 ∷ repeat 10 ∷ sequence 1 11 ∷ slot 0 ∷ [])

-- x←2147483647+1
table_k : List ℕ
table_k = table (body 3) (integer 32767 65535 ∷ integer 0 1 ∷ add 0 1 ∷ update 0 2 ∷ [])

-- empty, returning -7÷2
table_l : List ℕ
table_l = table (returning 0 3 2) (empty ∷ integer 65535 65529 ∷ integer 0 2 ∷ divide 1 2 ∷ [])

-- ?(false and 1÷0==0)
table_m : List ℕ
table_m = table (body 7)
    (bool 0 ∷ integer 0 1 ∷ integer 0 0 ∷ divide 1 2 ∷ integer 0 0 ∷ equal 3 4 ∷ conjunction 0 5 ∷ constraint 6 ∷ [])

-- ('a' 'b') / 'a'
table_n : List ℕ
table_n = table (body 4) (terminal 97 ∷ terminal 98 ∷ sequence 0 1 ∷ terminal 97 ∷ choice 2 3 ∷ [])

-- rule 0 calls itself
table_o : List ℕ
table_o = table (body 0) (call 0 ∷ [])

-- ════ The cases ════

-- what is asked of a case: the answer, the bytes of its first value, and the type check's verdict
pub record Outcome : Type 0 where
  pub answer : Answer
  pub bytes : List ℕ
  pub types : Verdict

pub record Case : Type 0 where
  pub mode : Mode
  pub words : List ℕ
  pub message : List ℕ
  pub budget : ℕ
  pub expected : Outcome

-- what the written meaning gives
pub given : Case → Outcome
given c =
    let a = answer c.mode c.words [] c.message c.budget work_words in
    record { answer = a; bytes = text_bytes c.message [] (get_or a.values 0 Val.Absent); types = type_check c.words [] }

abbrev pub typed : Answer → Outcome
typed a = record { answer = a; bytes = []; types = passed }

abbrev pub untyped : Answer → Outcome
untyped a = record { answer = a; bytes = []; types = Err (Untyped 0) }

-- a budget where the case names none: the largest
abbrev pub plenty : ℕ
plenty = 4294967295

abbrev pub no_values : List Value
no_values = []

abbrev pub x= : Value → List Value
x= v = v ∷ []

pub cases : List Case
cases =
    record { mode = Display; words = table_a; message = 71 ∷ 49 ∷ []; budget = 2; expected = record { answer = answered DONE 0 1 2 (x= (Val.Text (record { literal = false; start = 0; length = 1 }))); bytes = 71 ∷ []; types = passed } }  -- A
    ∷ record { mode = Display; words = table_a; message = []; budget = 2; expected = typed (answered NOMATCH 0 0 2 no_values) }  -- B
    ∷ record { mode = Display; words = table_a; message = 71 ∷ 49 ∷ []; budget = 1; expected = typed (answered BUDGET 0 0 1 no_values) }  -- C
    ∷ record { mode = Display; words = table_a; message = 71 ∷ 49 ∷ []; budget = 0; expected = typed (answered BUDGET 1 0 0 no_values) }  -- D
    ∷ record { mode = Display; words = table_e; message = []; budget = plenty; expected = untyped (answered TYPE 0 0 0 no_values) }  -- E
    ∷ record { mode = Bench; words = table_e; message = []; budget = plenty; expected = untyped (answered DONE 0 0 3 no_values) }  -- E, bench
    ∷ record { mode = Display; words = table_f; message = 50 ∷ []; budget = plenty; expected = typed (answered DONE 0 1 6 (x= (Val.Integer (pos 2)))) }  -- F
    ∷ record { mode = Display; words = table_g; message = 50 ∷ []; budget = plenty; expected = untyped (answered TYPE 0 0 0 no_values) }  -- G
    ∷ record { mode = Bench; words = table_g; message = 50 ∷ []; budget = plenty; expected = untyped (answered STUCK 6 0 4 no_values) }  -- G, bench
    ∷ record { mode = Display; words = table_h; message = []; budget = plenty; expected = typed (answered DONE 0 0 5 (x= (Val.Integer (pos 1)))) }  -- H
    ∷ record { mode = Display; words = table_i; message = []; budget = 10; expected = typed (answered BUDGET 0 0 10 no_values) }  -- I
    ∷ record { mode = Display; words = table_j; message = []; budget = plenty; expected = typed (answered DONE 0 0 14 (x= (Val.Integer (pos 3)))) }  -- J
    ∷ record { mode = Display; words = table_k; message = []; budget = plenty; expected = typed (answered FAULT 2 0 1 no_values) }  -- K
    ∷ record { mode = Display; words = table_l; message = []; budget = plenty; expected = typed (answered DONE 0 0 1 (x= (Val.Integer (negsuc 2)))) }  -- L
    ∷ record { mode = Display; words = table_m; message = []; budget = plenty; expected = typed (answered NOMATCH 0 0 1 no_values) }  -- M
    ∷ record { mode = Display; words = table_n; message = 97 ∷ 99 ∷ []; budget = plenty; expected = typed (answered DONE 0 1 5 no_values) }  -- N
    ∷ record { mode = Display; words = table_o; message = []; budget = 257; expected = typed (answered DEEP 0 0 256 no_values) }  -- O
    ∷ record { mode = Display; words = table_o; message = []; budget = 256; expected = typed (answered BUDGET 0 0 256 no_values) }  -- O, a smaller budget
    ∷ []

pub bench : map given cases ≡ map (λ (c : Case). c.expected) cases
unfolding given cases table_a table_e table_f table_g table_h table_i table_j table_k table_l table_m table_n table_o tabulate smallest_failing how_many signed nodes node_for node_at node expr_of parsing_of expr_with expr_at parsing_with parsing_at rule_at grammar_of F.field_sorts F.field_sort F.rule_sorts F.fits F.rule_word_ok F.node_word_ok F.word_ok F.uses_node F.word_uses F.uses F.every F.size_ok F.table_check same T.operator_type T.expr_type T.has T.have_all T.assign T.assign_all T.type_of T.typed_after T.typed_rule T.untyped L.fitting L.quotient L.calculated L.span_bytes L.text_bytes L.same_texts L.equal L.look_left L.operate L.negated R.eval R.eval_all R.next R.with_value R.judged R.fresh R.receive R.byte_stands R.rounds R.due R.returning R.visit R.admit R.apply A.number A.place A.refusal_number A.refusal_place A.ending_number A.type_rules type_check A.check A.run A.answer_of A.refusal A.conclude answer
bench = refl

-- ════ 'smallest such rule' ════

-- rule 0 is right, and rules 1 and 2 break the type rules: their constraints are Integers
pub two_untyped : List ℕ
two_untyped =
    (3 ∷ 5 ∷ 0 ∷ [])
    ++ (records 15 (body 0 ∷ body 2 ∷ body 4 ∷ []) ++ records 10 (empty ∷ integer 0 1 ∷ constraint 1 ∷ integer 0 1 ∷ constraint 3 ∷ []))

pub smallest_told : type_check two_untyped [] ≡ Err (Untyped 1)
unfolding two_untyped tabulate smallest_failing how_many signed nodes node_for node_at expr_of parsing_of expr_with expr_at parsing_with parsing_at rule_at grammar_of F.field_sorts F.field_sort F.rule_sorts F.fits F.rule_word_ok F.node_word_ok F.word_ok F.uses_node F.word_uses F.uses F.every F.size_ok F.table_check T.expr_type T.has T.have_all T.type_of T.typed_after T.typed_rule T.untyped A.type_rules type_check
smallest_told = refl
