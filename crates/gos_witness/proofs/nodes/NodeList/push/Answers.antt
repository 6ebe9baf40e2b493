use Rattle.std.proofs.Common.{rules, ◌≡◌, ℕ, List, refl, sym, ap, subst, length}
use Rattle.gos_witness.specs.Sizes.{size}
use Rattle.gos_witness.specs.Needs.{needs}
use Rattle.gos_witness.specs.declared.nodes.Node.{Node}
use Rattle.gos_witness.specs.NodeLists.{Listed, IsKept, IsCount, Fits, seen, shape}
use Rattle.gos_witness.specs.inner.Lists.{list_of}
use Rattle.gos_witness.specs.inner.Keeping.{Keeps}
use Rattle.gos_witness.proofs.KeepLemmas.{pushed}
use Rattle.gos_witness.proofs.nodes.NodeList.push.Goals as goal

pub invariant_of-self : goal.invariant_of-self
invariant_of-self c =
    subst (λ (ns : List Node). IsKept (record { tables = (list_of c.self.inside).tables; nodes = ns })) (sym c.in_err-push.ensures.items) c.self.invariant

pub invariant_of-self-2 : goal.invariant_of-self-2
invariant_of-self-2 c =
    let l = list_of c.self.inside in
    let n : Node = record { form = c.args.form; size = c.size_of-size.result; needs = c.needs_of-needs.result } in
    let fits = subst (λ (x : Listed). Fits x.tables (length x.nodes) c.args.form) (sym c.self.view_is) c.requires in
    let sized = subst (λ (x : Listed). IsCount c.size_of-size.result (size (shape x c.args.form))) (sym c.self.view_is) c.size_of-size.ensures in
    let needed = subst (λ (x : Listed). c.needs_of-needs.result ≡ needs (shape x c.args.form)) (sym c.self.view_is) c.needs_of-needs.ensures.value in
    let l' : Listed = record { tables = l.tables; nodes = c.push.new.self.items } in
    let is = ap (λ (ns : List Node). record l { nodes = ns }) c.in_ok-push.ensures.items in
    (pushed l l' c.args.form n c.self.invariant fits sized needed c.needs_of-needs.ensures.few refl is).0

pub returns-clause-term : goal.returns-clause-term
returns-clause-term c =
    let l = list_of c.self.inside in
    let n : Node = record { form = c.args.form; size = c.size_of-size.result; needs = c.needs_of-needs.result } in
    let fits = subst (λ (x : Listed). Fits x.tables (length x.nodes) c.args.form) (sym c.self.view_is) c.requires in
    let sized = subst (λ (x : Listed). IsCount c.size_of-size.result (size (shape x c.args.form))) (sym c.self.view_is) c.size_of-size.ensures in
    let needed = subst (λ (x : Listed). c.needs_of-needs.result ≡ needs (shape x c.args.form)) (sym c.self.view_is) c.needs_of-needs.ensures.value in
    let l' : Listed = record { tables = l.tables; nodes = c.push.new.self.items } in
    let is = ap (λ (ns : List Node). record l { nodes = ns }) c.in_ok-push.ensures.items in
    let count : length c.self.inside.nodes.items ≡ c.len-number.result = search rules in
    let term = (pushed l l' c.args.form n c.self.invariant fits sized needed c.needs_of-needs.ensures.few refl is).2 in
    subst (λ (x : Listed). seen l' c.len-number.result ≡ shape x c.args.form) c.self.view_is
    (subst (λ (i : ℕ). seen l' i ≡ shape l c.args.form) count term)

pub returns-clause-keeps : goal.returns-clause-keeps
returns-clause-keeps c =
    let l = list_of c.self.inside in
    let n : Node = record { form = c.args.form; size = c.size_of-size.result; needs = c.needs_of-needs.result } in
    let fits = subst (λ (x : Listed). Fits x.tables (length x.nodes) c.args.form) (sym c.self.view_is) c.requires in
    let sized = subst (λ (x : Listed). IsCount c.size_of-size.result (size (shape x c.args.form))) (sym c.self.view_is) c.size_of-size.ensures in
    let needed = subst (λ (x : Listed). c.needs_of-needs.result ≡ needs (shape x c.args.form)) (sym c.self.view_is) c.needs_of-needs.ensures.value in
    let l' : Listed = record { tables = l.tables; nodes = c.push.new.self.items } in
    let is = ap (λ (ns : List Node). record l { nodes = ns }) c.in_ok-push.ensures.items in
    let keeps = (pushed l l' c.args.form n c.self.invariant fits sized needed c.needs_of-needs.ensures.few refl is).1 in
    subst (λ (x : Listed). Keeps x l') c.self.view_is keeps
