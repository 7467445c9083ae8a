use Rattle.std.proofs.Common.{◌≡◌, ◌+◌, ◌-◌, Ok, None, arith, refl, sym, ap, ◌∙◌}
use Rattle.demangle_v0_parser.specs.Frames.{Stack}
use Rattle.demangle_v0_parser.specs.Parsers.{Performed}
use Rattle.demangle_v0_parser.specs.declared.Continuation.TheVariants as continuation
use Rattle.demangle_v0_parser.specs.declared.parse.Parser.{Parser}
use Rattle.demangle_v0_parser.proofs.NestedNames.{named, named_runs, named_stops, named_ends}
use Rattle.demangle_v0_parser.proofs.parse.Parser.plain_names.Goals as goal

pub returns-in-Err-clause-end : goal.returns-in-Err-clause-end
returns-in-Err-clause-end g c p before x below =
    let k = c.names.self in
    let left = c.names.left - 1 in
    let one : c.names.left ≡ left + 1 = omega arith in
    named_stops g.V.Output c.args.self.now k c.nested_name.new.self c.push_names.new.self c.names.output c.nested_name.new.output c.args.outer left c.in-Err.stop p before c.names.invariant.source (below ∙ sym (ap (λ (z : Stack). z.frames) c.names.invariant.stack)) c.nested_name.ensures.placed c.push_names.ensures
    (rw c.in-Err.is at c.nested_name.ensures.performs) (rw one at (c.names.invariant.ran p before x))

pub returns-in-Err-clause-most : goal.returns-in-Err-clause-most
returns-in-Err-clause-most g c = rw c.push_names.ensures (omega (arith, rw c.names.invariant.source at c.nested_name.ensures.most, c.names.invariant.reads, c.names.invariant.bound))

pub names-preserved : goal.names-preserved
names-preserved g c =
    let k = c.names.self in
    let n = c.nested_name.new.self in
    let left = c.names.left - 1 in
    let one : c.names.left ≡ left + 1 = omega arith in
    let placed = c.nested_name.ensures.placed in
    let ends : c.nested_name.result ≡ Ok continuation.End = rw c.in_default.is (ap Ok (rw c.in_default.is at c.nested_name.ensures.ends)) in
    let performs : Performed g.V.Output continuation.NestedName (named g.V.Output k c.args.outer left) c.names.output (Ok continuation.End) n c.nested_name.new.output = rw ends at c.nested_name.ensures.performs in
    let no_text : n.state.pending_text ≡ None = ap (λ (z : Parser). z.state.pending_text) placed ∙ c.names.invariant.no_pending_text in
    record {
      bound = omega (arith, c.names.invariant.bound);
      source = ap (λ (z : Parser). z.source) placed ∙ c.names.invariant.source;
      stack = ap (λ (z : Parser). z.stack) placed ∙ c.names.invariant.stack;
      lifetimes = ap (λ (z : Parser). z.state.lifetimes) placed ∙ c.names.invariant.lifetimes;
      no_pending_text = no_text;
      grows = omega (arith, c.names.invariant.grows, performs.does.grows);
      reads = omega (arith, rw c.names.invariant.source at ((rw ends at c.nested_name.ensures.reads) refl), c.names.invariant.reads, c.names.invariant.bound);
      ready = performs.does.ready c.names.invariant.ready refl;
      ran = λ p before x. named_runs g.V.Output c.args.self.now k n c.names.output c.nested_name.new.output c.args.outer left p before c.names.invariant.source c.nested_name.ensures.placed no_text performs (rw one at (c.names.invariant.ran p before x));
    }

pub returns-clause-end : goal.returns-clause-end
returns-clause-end g c p before x below =
    let k = c.names.self in
    named_ends g.V.Output c.args.self.now k c.names.output c.args.outer c.names.left p before c.names-test.false (below ∙ sym (ap (λ (z : Stack). z.frames) c.names.invariant.stack)) c.names.invariant.no_pending_text (c.names.invariant.ran p before x)

pub returns-clause-reads : goal.returns-clause-reads
returns-clause-reads g c = λ _. omega (arith, c.names.invariant.reads)

pub returns-clause-most : goal.returns-clause-most
returns-clause-most g c = omega (arith, c.names.invariant.reads)
