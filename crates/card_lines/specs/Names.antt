-- The names of a card's lines, and the fields behind them. Definitions only.
use Rattle.std.specs.Prelude.{Option, Bool, cond, List, [], ◌∷◌, ℕ, ◌+◌, eqb}
use Rattle.std.specs.Cmp.Lexicographic.{pointwise}
use Rattle.std.specs.List.{find}
use Rattle.kinds.specs.declared.types.Kind.{Kind}
use Rattle.kinds.specs.declared.types.Kind.TheVariants as kind
use Rattle.kinds.specs.Types as types
use Rattle.card_lines.specs.declared.names.Name.{Name}
use Rattle.card_lines.specs.declared.names.Name.TheVariants.{Head, Node, Wire}

-- the same bytes
abbrev pub alike : List ℕ → List ℕ → Bool
alike = pointwise eqb

abbrev pub block_name : List ℕ
block_name = 98 ∷ 108 ∷ 111 ∷ 99 ∷ 107 ∷ []

abbrev pub pass_name : List ℕ
pass_name = 112 ∷ 97 ∷ 115 ∷ 115 ∷ []

abbrev pub sum_name : List ℕ
sum_name = 115 ∷ 117 ∷ 109 ∷ []

abbrev pub destination_name : List ℕ
destination_name = 100 ∷ 101 ∷ 115 ∷ 116 ∷ 105 ∷ 110 ∷ 97 ∷ 116 ∷ 105 ∷ 111 ∷ 110 ∷ []

abbrev pub balance_name : List ℕ
balance_name = 98 ∷ 97 ∷ 108 ∷ 97 ∷ 110 ∷ 99 ∷ 101 ∷ []

abbrev pub mul_name : List ℕ
mul_name = 109 ∷ 117 ∷ 108 ∷ []

abbrev pub add_name : List ℕ
add_name = 97 ∷ 100 ∷ 100 ∷ []

abbrev pub delay_name : List ℕ
delay_name = 100 ∷ 101 ∷ 108 ∷ 97 ∷ 121 ∷ []

abbrev pub allpass_name : List ℕ
allpass_name = 97 ∷ 108 ∷ 108 ∷ 112 ∷ 97 ∷ 115 ∷ 115 ∷ []

abbrev pub onepole_name : List ℕ
onepole_name = 111 ∷ 110 ∷ 101 ∷ 112 ∷ 111 ∷ 108 ∷ 101 ∷ []

abbrev pub sine_name : List ℕ
sine_name = 115 ∷ 105 ∷ 110 ∷ 101 ∷ []

abbrev pub wire_name : List ℕ
wire_name = 119 ∷ 105 ∷ 114 ∷ 101 ∷ []

-- the word between the head's numbers
abbrev pub input_name : List ℕ
input_name = 105 ∷ 110 ∷ 112 ∷ 117 ∷ 116 ∷ []

-- the word that stands for a type; and for a line's name
abbrev pub type_word : Kind → List ℕ
type_word kind.Pass = pass_name
type_word kind.Sum = sum_name
type_word kind.Destination = destination_name
type_word kind.Balance = balance_name
type_word kind.Mul = mul_name
type_word kind.Add = add_name
type_word kind.Delay = delay_name
type_word kind.AllPass = allpass_name
type_word kind.OnePole = onepole_name
type_word kind.Sine = sine_name

abbrev pub word_of : Name → List ℕ
word_of Head = block_name
word_of (Node k) = type_word k
word_of Wire = wire_name

abbrev pub is_named : List ℕ → Name → Bool
is_named word n = alike word (word_of n)

-- the names in their order: the head, the types by their numbers, the wire
abbrev pub names : List Name
names =
    Head
    ∷ Node kind.Pass
    ∷ Node kind.Sum
    ∷ Node kind.Destination
    ∷ Node kind.Balance
    ∷ Node kind.Mul
    ∷ Node kind.Add
    ∷ Node kind.Delay
    ∷ Node kind.AllPass
    ∷ Node kind.OnePole
    ∷ Node kind.Sine
    ∷ Wire
    ∷ []

-- what a word names
unfoldable pub named : List ℕ → Option Name
named word = find (is_named word) names

-- how many words a line has
abbrev pub node_words : Bool → Bool → ℕ
node_words whole float = 1 + cond whole 1 0 + cond float 1 0

abbrev pub words_wanted : Name → ℕ
words_wanted Head = 4
words_wanted (Node k) = node_words (types.has_whole k) (types.has_float k)
words_wanted Wire = 3
