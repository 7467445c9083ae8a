-- Internal: no public contract cites this.
-- The continuations at the productions to which references lead.
use Rattle.std.specs.Prelude.{Bool, true, false}
use Rattle.demangle_v0_parser.specs.declared.Continuation.{Continuation}
use Rattle.demangle_v0_parser.specs.declared.Continuation.TheVariants as continuation

-- whether the continuation is at such a production, whose text may be put again
abbrev pub is_target : Continuation → Bool
is_target continuation.TargetPath = true
is_target continuation.TargetType = true
is_target continuation.TargetConstant = true
is_target p = false

-- the continuation there, for that of a production
abbrev pub target_of : Continuation → Continuation
target_of continuation.Path = continuation.TargetPath
target_of continuation.«Type» = continuation.TargetType
target_of continuation.Constant = continuation.TargetConstant
target_of p = p

-- the continuation of the production
abbrev pub unit_of : Continuation → Continuation
unit_of continuation.TargetPath = continuation.Path
unit_of continuation.TargetType = continuation.«Type»
unit_of continuation.TargetConstant = continuation.Constant
unit_of p = p
