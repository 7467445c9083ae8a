-- A parse that has failed stays so.
use Rattle.std.specs.Prelude.{ℕ}
use Rattle.std.proofs.Common.{◌≡◌, Bool, true, false, None, refl}
use Rattle.demangle_v0_grammar.specs.Items.{Items}
use Rattle.demangle_v0_grammar.proofs.ItemBudgets.{idle}
use Rattle.demangle_v0_grammar.specs.Reading.{Place, Outcome, Context, parse, angle_if_open, bound_by}

pub closed_place : (o : Bool) (i : Place) → (angle_if_open o i).place ≡ i
closed_place true i = refl
closed_place false i = refl

pub failed : (p : Items) (s : Context) → (parse p s None).place ≡ None
failed p s = (idle true 0 p s).0

pub bound_failed : (n : ℕ) (s : Context) (f : Place → Outcome) (o : Bool) → (bound_by n s f o None).place ≡ None
unfolding bound_by
bound_failed n s f o = closed_place o None
