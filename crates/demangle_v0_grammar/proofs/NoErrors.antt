-- A production that is spelled without a reference, and with no lifetime except that of index 0, prints no error.
use Rattle.std.specs.Prelude.{ℕ, ◌≤◌}
use Rattle.std.proofs.Common.{Bool, true, false, List, length}
use Rattle.demangle_v0_grammar.specs.Items.{Kind}
use Rattle.demangle_v0_grammar.specs.Table.{items}
use Rattle.demangle_v0_grammar.specs.Reading.{HasNoError, max_depth, read_at}
use Rattle.demangle_v0_grammar.specs.Spelling.{Spells, simple}
use Rattle.demangle_v0_grammar.proofs.Rules.{simply, simply_outside, IsLaxer}
use Rattle.demangle_v0_grammar.proofs.ParsedIsSpelled.{rule}
use Rattle.demangle_v0_grammar.proofs.SpelledIsParsed.{unit_reads}

simply_read : (folds : Bool) → IsLaxer simple (rule true folds)
simply_read true = simply_outside
simply_read false = simply

pub read_whole : (symbol : List ℕ) (folds : Bool) (kind : Kind) (value : Bool) (i j d n : ℕ) → d ≤ max_depth → i ≤ length symbol → Spells symbol simple d n (items kind value) i j → HasNoError (read_at symbol folds true kind i d n value).tree
read_whole symbol folds kind value i j d n h b e = (unit_reads symbol folds simple true kind value i j d n (simply_read folds) h b e).1 (λ q. absurd q)
