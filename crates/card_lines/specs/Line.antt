-- One line of a card: the record that it says, or what is wrong with it (docs/CARD.md). Definitions only.
-- `ls` are all lines of the card, for the names of its nodes, and k nodes stand before the line.
use Rattle.std.specs.Prelude.{Option, Some, None, Result, Ok, Err, unwrap_or, Bool, true, false, cond, ◌||◌, List, ℕ, eqb, length}
use Rattle.decimals.specs.Number.{whole_of, float_of}
use Rattle.decimals.specs.declared.number.FloatError.{FloatError}
use Rattle.text.specs.Words.{nth_word, word_count}
use Rattle.kinds.specs.Types.{has_whole, has_float}
use Rattle.kinds.specs.declared.types.Kind.{Kind}
use Rattle.card_lines.specs.Labels.{bare, starts_name, good_name, is_label, label_of, body_of, node_of, end_of}
use Rattle.card_lines.specs.LineLengths.{length_of}
use Rattle.card_lines.specs.Names.{alike, input_name, named, words_wanted}
use Rattle.card_lines.specs.Reason.{float_reason}
use Rattle.card_lines.specs.declared.names.Name.{Name}
use Rattle.card_lines.specs.declared.names.Name.TheVariants as name
use Rattle.card_lines.specs.declared.reason.Reason.{Reason}
use Rattle.card_lines.specs.declared.reason.Reason.TheVariants as reason
use Rattle.card_lines.specs.declared.line.Line.{Line}
use Rattle.card_lines.specs.declared.line.Line.TheVariants.{Blank, Head, Node, Wire}

-- what is wrong with a word that stands for no node
abbrev pub no_end : List ℕ → Reason
no_end word = cond (starts_name word) reason.Missing reason.Whole

abbrev pub ended : Option ℕ → List ℕ → Result ℕ Reason
ended (Some k) word = Ok k
ended None word = Err (no_end word)

-- block N input I: the words behind `block`, and the node that the last stands for
abbrev pub head_by : ℕ → Result ℕ Reason → Result Line Reason
head_by size (Ok input) = Ok (Head size input)
head_by size (Err r) = Err r

abbrev pub head_line : Option ℕ → List ℕ → Result ℕ Reason → Result Line Reason
head_line None word input = Err reason.Whole
head_line (Some size) word input = cond (alike word input_name) (head_by size input) (Err reason.Name)

-- wire SOURCE TARGET: the nodes that the words behind `wire` stand for
abbrev pub wire_line : Result ℕ Reason → Result ℕ Reason → Result Line Reason
wire_line (Ok source) (Ok target) = Ok (Wire source target)
wire_line (Ok source) (Err r) = Err r
wire_line (Err r) target = Err r

-- a node with the whole number n, and a word as its float if its type has one
abbrev pub node_by : Kind → ℕ → Result ℕ FloatError → Result Line Reason
node_by k n (Ok f) = Ok (Node k n f)
node_by k n (Err e) = Err (float_reason e)

abbrev pub float_line : Kind → ℕ → List ℕ → Result Line Reason
float_line k n word = cond (has_float k) (node_by k n (float_of word)) (Ok (Node k n 0))

-- a node, by the two words behind its name: its length if its type has one, then its float if it has one
abbrev pub length_line : Kind → Result ℕ Reason → List ℕ → Result Line Reason
length_line k (Ok n) word = float_line k n word
length_line k (Err r) word = Err r

abbrev pub node_line : Kind → List ℕ → List ℕ → Result Line Reason
node_line k first second = cond (has_whole k) (length_line k (length_of k first) second) (float_line k 0 first)

-- the record of a line with this name
unfoldable pub record_line : List (List ℕ) → List ℕ → Name → Result Line Reason
record_line ls s name.Head = head_line (whole_of (nth_word 1 s) 65535) (nth_word 2 s) (ended (end_of ls (nth_word 3 s)) (nth_word 3 s))
record_line ls s (name.Node k) = node_line k (nth_word 1 s) (nth_word 2 s)
record_line ls s name.Wire = wire_line (ended (end_of ls (nth_word 1 s)) (nth_word 1 s)) (ended (end_of ls (nth_word 2 s)) (nth_word 2 s))

abbrev pub named_line : List (List ℕ) → List ℕ → Option Name → Result Line Reason
named_line ls s None = Err reason.Name
named_line ls s (Some n) = cond (eqb (word_count s) (words_wanted n)) (record_line ls s n) (Err reason.Fields)

-- a line without a name before it: nothing but spaces; or a record
unfoldable pub plain_line : List (List ℕ) → List ℕ → Result Line Reason
plain_line ls s = cond (eqb (length (nth_word 0 s)) 0) (Ok Blank) (named_line ls s (named (nth_word 0 s)))

-- no node follows a name: nothing, or the head or a wire
abbrev pub is_end : Option Name → Bool
is_end None = false
is_end (Some name.Head) = true
is_end (Some (name.Node k)) = false
is_end (Some name.Wire) = true

abbrev pub is_other : List ℕ → Option Name → Bool
is_other word n = eqb (length word) 0 || is_end n

-- a line with a name before it: the name is well formed, a node follows, and it is the first with that name
unfoldable pub labelled_line : List (List ℕ) → ℕ → List ℕ → List ℕ → Result Line Reason
labelled_line ls k name s =
    cond (good_name name)
    (cond (is_other (nth_word 0 s) (named (nth_word 0 s))) (Err reason.NoNode)
    (cond (eqb (unwrap_or (node_of ls name) 0) k) (plain_line ls s) (Err reason.Twice)))
    (Err reason.Label)

-- a line without its comment
unfoldable pub line_of : List (List ℕ) → ℕ → List ℕ → Result Line Reason
line_of ls k s = cond (is_label (nth_word 0 s)) (labelled_line ls k (label_of s) (body_of s)) (plain_line ls s)

-- a line
unfoldable pub said_of : List (List ℕ) → ℕ → List ℕ → Result Line Reason
said_of ls k l = line_of ls k (bare l)
