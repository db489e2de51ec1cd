-- The names that a card gives its nodes, as `echo: delay 300ms`, and the node that a word stands for. Definitions only.
use Rattle.std.specs.Prelude.{Option, Some, None, Bool, true, false, cond, ◌||◌, ◌&&◌, List, [], ◌∷◌, ℕ, ◌+◌, ◌-◌, eqb, leb, length, take, drop, get_or}
use Rattle.decimals.specs.Number.{upto, whole_of}
use Rattle.text.specs.Words.{ahead, is_byte, next_word, nth_word}
use Rattle.card_lines.specs.declared.names.Name.{Name}
use Rattle.card_lines.specs.declared.names.Name.TheVariants.{Head, Node, Wire}
use Rattle.card_lines.specs.Names.{alike, named}

-- a letter; and what may follow it in a name: letters, digits, `_`, `-` and `.`
abbrev pub is_letter : ℕ → Bool
is_letter c = (leb 65 c && leb c 90) || (leb 97 c && leb c 122)

abbrev pub is_inner : ℕ → Bool
is_inner c = (((is_letter c || (leb 48 c && leb c 57)) || eqb c 95) || eqb c 45) || eqb c 46

unfoldable pub all_inner : List ℕ → Bool
all_inner [] = true
all_inner (c ∷ s) = cond (is_inner c) (all_inner s) false

-- a word that starts with a letter is a name and no number
abbrev pub starts_name : List ℕ → Bool
starts_name word = is_letter (get_or word 0 0)

abbrev pub good_name : List ℕ → Bool
good_name name = starts_name name && all_inner name

-- a line up to its comment, from `#` on
abbrev pub bare : List ℕ → List ℕ
bare l = take (ahead (is_byte 35) l) l

-- a first word that ends with `:` gives the name that stands before the colon; the record follows it
abbrev pub is_label : List ℕ → Bool
is_label word = eqb (get_or word (length word - 1) 0) 58

unfoldable pub label_of : List ℕ → List ℕ
label_of s = take (cond (is_label (nth_word 0 s)) (length (nth_word 0 s) - 1) 0) (nth_word 0 s)

unfoldable pub body_of : List ℕ → List ℕ
body_of s = drop (cond (is_label (nth_word 0 s)) (next_word s 0).to 0) s

-- whether a line with this name says a node
abbrev pub is_node : Option Name → Bool
is_node None = false
is_node (Some Head) = false
is_node (Some (Node k)) = true
is_node (Some Wire) = false

-- how many nodes a line says: one if its record is named by a type
unfoldable pub nodes_in : List ℕ → ℕ
nodes_in s = cond (is_node (named (nth_word 0 (body_of s)))) 1 0

-- the number of the first node with this name among some lines, behind k nodes; or none
unfoldable pub node_named : List ℕ → ℕ → List (List ℕ) → Option ℕ
node_named name k [] = None
node_named name k (l ∷ ls) = cond (alike (label_of (bare l)) name) (Some k) (node_named name (k + nodes_in (bare l)) ls)

abbrev pub node_of : List (List ℕ) → List ℕ → Option ℕ
node_of ls name = upto 65535 (node_named name 0 ls)

-- the node that a word stands for, in a card of these lines: by its name, or by its number
unfoldable pub end_of : List (List ℕ) → List ℕ → Option ℕ
end_of ls word = cond (starts_name word) (node_of ls word) (whole_of word 65535)

-- ---- a byte-order mark at the start of a text is passed over: EF BB BF

abbrev pub mark : List ℕ
mark = 239 ∷ 187 ∷ 191 ∷ []

abbrev pub unmarked : List ℕ → List ℕ
unmarked text = drop (cond (alike (take 3 text) mark) 3 0) text
