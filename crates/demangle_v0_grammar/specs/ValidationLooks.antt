-- The looks of validating a v0 symbol.
use Rattle.std.specs.Prelude.{ℕ, ◌+◌, ◌-◌, false, true, if◌then◌else◌, List, length, Some, None}
use Rattle.demangle_v0_grammar.specs.Items.{a_path}
use Rattle.demangle_v0_grammar.specs.LookBudget.{looks_of}
use Rattle.demangle_v0_grammar.specs.Reading.{Place, Outcome, costs_of, read_at, starts_second_path}

abbrev pub looks_in : Outcome → ℕ
looks_in o = looks_of (costs_of true o.tree)

-- the looks at the suffix: one at each of its bytes, and one at its end
abbrev pub suffix_looks : List ℕ → Place → ℕ
suffix_looks symbol None = 0
suffix_looks symbol (Some j) = length symbol + 1 - j

-- the looks after the first path: whether a second one begins, that one, and the suffix
abbrev pub second_looks : List ℕ → Place → ℕ
second_looks symbol None = 0
second_looks symbol (Some j) = 1 +
    (if starts_second_path symbol j then (let o = read_at symbol false false a_path j 0 0 true in looks_in o + suffix_looks symbol o.place)
    else suffix_looks symbol (Some j))

-- the looks at the whole symbol
unfoldable pub accepting_looks : List ℕ → ℕ
accepting_looks symbol = let o = read_at symbol false false a_path 0 0 0 true in looks_in o + second_looks symbol o.place
