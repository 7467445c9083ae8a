use Rattle.std.proofs.Common.{refl, sym, ◌∙◌}
use Rattle.demangle_v0_parser.proofs.ListSteps.{list_continues, list_shuts}
use Rattle.demangle_v0_parser.proofs.TupleSteps.{first_type}
use Rattle.demangle_v0_parser.proofs.parse.Parser.first_tuple_type.Goals as goal

pub returns-then-ends_list : goal.returns-then-ends_list
returns-then-ends_list c = λ p. rw (c.end_with.ensures.end, c.end_with.ensures.with_text, c.ends_list.ensures.place) (record { does = list_shuts (first_type _) (sym c.ends_list.ensures.over ∙ c.if-ends_list.true) refl c.ends_list.ensures.within_budget; same = (refl, refl, refl) })

pub returns : goal.returns
returns c = λ p. rw (c.push.ensures, c.ends_list.ensures.place) (record { does = list_continues (first_type _) (sym c.ends_list.ensures.over ∙ c.if-ends_list.false) refl c.ends_list.ensures.within_budget c.requires.can_step.no_pending_text c.requires.can_step.fits refl; same = (refl, refl, refl) })
