use Rattle.std.proofs.Common.{sym}
use Rattle.demangle_value.proofs.PathEndLaws.{path_len-styled}
use Rattle.demangle_value.proofs.SymbolLemmas.{styled-some, style_suffix-shorter}
use Rattle.demangle_value.proofs.value.Demangle.path_len.Goals as goal

pub overflow_sub-result : goal.overflow_sub-result
overflow_sub-result c = let has = styled-some _ _ _ _ c.self.invariant c.in-Some.is in style_suffix-shorter _ _ _ has.read

pub returns-in-Some : goal.returns-in-Some
returns-in-Some c = rw (← c.self.view_is) (sym (path_len-styled _ _ _ (styled-some _ _ _ _ c.self.invariant c.in-Some.is)))
