-- How statistics and the lines of lists are laid out, as YAML texts.
use Rattle.std.specs.Prelude.{ℕ, List, ◌++◌, flat_map, codes, decimal}

-- a key and its value
abbrev pub KeyValue : Type 0
KeyValue = List ℕ × List ℕ

-- a key whose value is a number
abbrev pub key_number : List ℕ → ℕ → KeyValue
key_number key n = (key, decimal n)

abbrev pub key_value_line : KeyValue → List ℕ
key_value_line pair = pair.0 ++ codes ": " ++ pair.1 ++ codes "\n"

-- Statistics: a line `key: value` for each pair.
abbrev pub statistics_text : List KeyValue → List ℕ
statistics_text pairs = codes "---\n" ++ flat_map key_value_line pairs

-- a line of a list of names
abbrev pub name_line : List ℕ → List ℕ
name_line name = codes "- " ++ name ++ codes "\n"
