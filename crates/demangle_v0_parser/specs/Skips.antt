-- Internal: no public contract cites this.
-- The parts that a printing parse reads and does not print: impl paths, and folded arguments.
use Rattle.std.specs.Prelude.{Bool, true, false, ◌||◌}
use Rattle.demangle_v0_parser.specs.Targets.{is_target}
use Rattle.demangle_v0_grammar.specs.Reading.{Form}
use Rattle.demangle_v0_parser.specs.declared.Continuation.{Continuation}
use Rattle.demangle_v0_parser.specs.declared.Continuation.TheVariants as continuation

-- whether such a part is next, with arguments folded or not
abbrev pub is_skipped : Form → Continuation → Bool
is_skipped form continuation.InherentImplPath = true
is_skipped form continuation.TraitImplPath = true
is_skipped form continuation.FirstArgument = form.fold_arguments
is_skipped form continuation.FirstTraitArgument = form.fold_arguments
is_skipped form p = false

-- whether the loop of printing does not run it: such a part is next, or a target
abbrev pub is_aside : Form → Continuation → Bool
is_aside form p = is_skipped form p || is_target p

-- the continuation that reads the part
abbrev pub skipped_continuation : Continuation → Continuation
skipped_continuation continuation.InherentImplPath = continuation.Path
skipped_continuation continuation.TraitImplPath = continuation.Path
skipped_continuation p = p

-- the continuation after the part
abbrev pub after_skip : Continuation → Continuation
after_skip continuation.InherentImplPath = continuation.InherentSelfType
after_skip continuation.TraitImplPath = continuation.TraitSelfType
after_skip continuation.FirstArgument = continuation.FoldedArguments
after_skip continuation.FirstTraitArgument = continuation.FoldedTraitArguments
after_skip p = p
