-- The nodes of a checked module's term have the types of their rows.
--
-- Read first: AgreeLemmas. What the term means is typed, and each node has the type of what it means.
use Rattle.std.specs.Prelude.{◌≡◌, List, [], ◌∷◌}
use Rattle.std.proofs.Common.{refl, ap, sym, ◌∙◌, subst}
use Rattle.gos_types.specs.declared.types.Ty.{Ty}
use Rattle.gos_types.specs.Types.{Type', Com, Exp, Var, Pair, Fun, IsDone, type_of}
use Rattle.gos_model.specs.Terms as terms
use Rattle.gos_model.specs.Terms.{Term}
use Rattle.gos_model.specs.Typing.{Imports, Typed, array_type}
use Rattle.gos_model.specs.Laws.{NodeHasType}
use Rattle.gos_check.specs.declared.linear.Split.{Split}
use Rattle.gos_check.specs.declared.linear.NodeForm.{NodeForm}
use Rattle.gos_check.specs.declared.linear.NodeForm.TheVariants as forms
use Rattle.gos_check.specs.Checked.{program_in}
use Rattle.gos_check.specs.Linearity.{import_at}
use Rattle.gos_check.specs.Nodes.{Numbered, Closed, Use, Under, One, Two, If, OfFun, OfNew, OfArray, OfFst, OfSnd, OfDeref, OfNot, OfApp, OfBoth, OfSeq, OfPar, OfWhile, OfAssign, OfBin, Meaning, meaning, below, inside, HasTypes, argument_of, numbered_of, node_seen}
use Rattle.gos_compile.specs.Wiring.{Types, type_of_node, all_types}
use Rattle.gos_compile.specs.Typed.{SidesTyped, ClosedTyped, NodesTyped, CheckedIsTyped, SkipIsTyped, SkipIsNoExpression}
use Rattle.gos_compile.proofs.AgreeLemmas.{SplitsAgree, Agree, UsesTyped}
use Rattle.gos_compile.proofs.RangeLemmas.{node_typed}
use Rattle.gos_compile.proofs.LoadLemmas.{is_light}

sides_typed : (types : Types) (ss : List Split) → SplitsAgree ss types → SidesTyped types ss
sides_typed types [] agrees = tt
sides_typed types (s ∷ ss) (left, right, agrees) = (left, right, sides_typed types ss agrees)

-- closed nodes are `skip` and literals
abbrev IsPlain : Term → Type 0
IsPlain terms.Skip = Unit {0}
IsPlain (terms.Lit k w) = Unit {0}
IsPlain c = ⊥

abbrev ClosedPlain : Numbered → Type 0
ClosedPlain (Closed t ss c) = IsPlain c
ClosedPlain (Use t ss n) = Unit {0}
ClosedPlain (Under t ss b n m) = ClosedPlain m
ClosedPlain (One t ss f m) = ClosedPlain m
ClosedPlain (Two t ss f m n) = ClosedPlain m × ClosedPlain n
ClosedPlain (If t ss m n p) = ClosedPlain m × ClosedPlain n × ClosedPlain p

plain_form : (t : Ty) (ss : List Split) (f : NodeForm) → ClosedPlain (numbered_of t ss f)
plain_form t ss forms.Skip = tt
plain_form t ss (forms.Lit k w) = tt
plain_form t ss (forms.Use n) = tt
plain_form t ss (forms.Fun' n p a qs f) = plain_form a qs.items f
plain_form t ss (forms.New' n w p a qs f) = plain_form a qs.items f
plain_form t ss (forms.Array' n l w p a qs f) = plain_form a qs.items f
plain_form t ss (forms.App' p a qs f q b rs g) = (plain_form a qs.items f, plain_form b rs.items g)
plain_form t ss (forms.Pair' p a qs f q b rs g) = (plain_form a qs.items f, plain_form b rs.items g)
plain_form t ss (forms.Fst' p a qs f) = plain_form a qs.items f
plain_form t ss (forms.Snd' p a qs f) = plain_form a qs.items f
plain_form t ss (forms.Seq' p a qs f q b rs g) = (plain_form a qs.items f, plain_form b rs.items g)
plain_form t ss (forms.Par' p a qs f q b rs g) = (plain_form a qs.items f, plain_form b rs.items g)
plain_form t ss (forms.If' p a qs f q b rs g r c us h) = (plain_form a qs.items f, plain_form b rs.items g, plain_form c us.items h)
plain_form t ss (forms.While' p a qs f q b rs g) = (plain_form a qs.items f, plain_form b rs.items g)
plain_form t ss (forms.Assign' p a qs f q b rs g) = (plain_form a qs.items f, plain_form b rs.items g)
plain_form t ss (forms.Deref' p a qs f) = plain_form a qs.items f
plain_form t ss (forms.Not' p a qs f) = plain_form a qs.items f
plain_form t ss (forms.Bin' op p a qs f q b rs g) = (plain_form a qs.items f, plain_form b rs.items g)

closed_typed : (i : Imports) (g : List Type') (c : Term) (t u : Type') → IsPlain c → u ≡ t → Typed i g c t → ClosedTyped c u
closed_typed i g terms.Skip t u plain same typed = same ∙ typed
closed_typed i g (terms.Lit k w) t u plain same typed = same ∙ typed.0
closed_typed i g c t u plain same typed = absurd plain

nodes_typed : NodeHasType → (i : Imports) (g : List Type') (env : Meaning) (m : Numbered) (t : Type') (types : Types) → HasTypes i g env m
    → Typed i g (meaning env m) t → Agree types m → UsesTyped types m → ClosedPlain m → NodesTyped types m
nodes_typed law i g env (Closed u ss c) t types has h agrees uses plain =
    (sides_typed types ss agrees, closed_typed i g c t u plain (node_typed law i g env (Closed u ss c) t has h) h)
nodes_typed law i g env (Use u ss n) t types has h agrees uses plain = (sides_typed types ss agrees, sym uses)
nodes_typed law i g env (Under u ss OfFun n m) t types (e, has) (b, f, h) (agrees, there, rest) uses plain =
    let env' : Meaning = below n (inside ss env) in
    let same : u ≡ t = node_typed law i g env (Under u ss OfFun n m) t (e, has) (b, f, h) in
    let body : type_of_node m ≡ b = node_typed law i (argument_of u ∷ g) env' m b has h in (
      sides_typed types ss agrees,
      same ∙ (f ∙ (λ j. Fun (sym there j) (sym body j))),
      nodes_typed law i (argument_of u ∷ g) env' m b types has h rest uses plain,
    )
nodes_typed law i g env (Under u ss (OfNew w) n m) t types (e, has) (done, width, h) (agrees, there, rest) uses plain =
    let env' : Meaning = below n (inside ss env) in
    let same : u ≡ t = node_typed law i g env (Under u ss (OfNew w) n m) t (e, has) (done, width, h) in
    let body : type_of_node m ≡ t = node_typed law i (Var w ∷ g) env' m t has h in (
      sides_typed types ss agrees,
      (subst (λ (v : Type'). IsDone v) (sym same) done, there, body ∙ sym same),
      nodes_typed law i (Var w ∷ g) env' m t types has h rest uses plain,
    )
nodes_typed law i g env (Under u ss (OfArray c w) n m) t types (e, has) (done, length, width, h) (agrees, there, rest) uses plain =
    let env' : Meaning = below n (inside ss env) in
    let same : u ≡ t = node_typed law i g env (Under u ss (OfArray c w) n m) t (e, has) (done, length, width, h) in
    let body : type_of_node m ≡ t = node_typed law i (array_type c w ∷ g) env' m t has h in (
      sides_typed types ss agrees,
      (subst (λ (v : Type'). IsDone v) (sym same) done, there, body ∙ sym same),
      nodes_typed law i (array_type c w ∷ g) env' m t types has h rest uses plain,
    )
nodes_typed law i g env (One u ss OfFst m) t types (e, has) (b, h) (agrees, rest) uses plain =
    let same : u ≡ t = node_typed law i g env (One u ss OfFst m) t (e, has) (b, h) in (
      sides_typed types ss agrees,
      (b, node_typed law i g (inside ss env) m (Pair t b) has h ∙ ap (λ (v : Type'). Pair v b) (sym same)),
      nodes_typed law i g (inside ss env) m (Pair t b) types has h rest uses plain,
    )
nodes_typed law i g env (One u ss OfSnd m) t types (e, has) (a, h) (agrees, rest) uses plain =
    let same : u ≡ t = node_typed law i g env (One u ss OfSnd m) t (e, has) (a, h) in (
      sides_typed types ss agrees,
      (a, node_typed law i g (inside ss env) m (Pair a t) has h ∙ ap (λ (v : Type'). Pair a v) (sym same)),
      nodes_typed law i g (inside ss env) m (Pair a t) types has h rest uses plain,
    )
nodes_typed law i g env (One u ss OfDeref m) t types (e, has) (w, f, h) (agrees, rest) uses plain = (
  sides_typed types ss agrees,
  (w, node_typed law i g env (One u ss OfDeref m) t (e, has) (w, f, h) ∙ f, node_typed law i g (inside ss env) m (Var w) has h),
  nodes_typed law i g (inside ss env) m (Var w) types has h rest uses plain,
)
nodes_typed law i g env (One u ss OfNot m) t types (e, has) (w, f, h) (agrees, rest) uses plain = (
  sides_typed types ss agrees,
  (w, node_typed law i g env (One u ss OfNot m) t (e, has) (w, f, h) ∙ f, node_typed law i g (inside ss env) m (Exp w) has h),
  nodes_typed law i g (inside ss env) m (Exp w) types has h rest uses plain,
)
nodes_typed law i g env (Two u ss OfApp m n) t types (e, has, hasn) (a, h, j, apart) (agrees, rest, restn) (uses, usesn) (plain, plainn) =
    let same : u ≡ t = node_typed law i g env (Two u ss OfApp m n) t (e, has, hasn) (a, h, j, apart) in
    let argument : type_of_node n ≡ a = node_typed law i g (inside ss env) n a hasn j in (
      sides_typed types ss agrees,
      node_typed law i g (inside ss env) m (Fun a t) has h ∙ (λ k. Fun (sym argument k) (sym same k)),
      nodes_typed law i g (inside ss env) m (Fun a t) types has h rest uses plain,
      nodes_typed law i g (inside ss env) n a types hasn j restn usesn plainn,
    )
nodes_typed law i g env (Two u ss OfBoth m n) t types (e, has, hasn) (a, b, f, h, j) (agrees, rest, restn) (uses, usesn) (plain, plainn) =
    let same : u ≡ t = node_typed law i g env (Two u ss OfBoth m n) t (e, has, hasn) (a, b, f, h, j) in
    let left : type_of_node m ≡ a = node_typed law i g (inside ss env) m a has h in
    let right : type_of_node n ≡ b = node_typed law i g (inside ss env) n b hasn j in (
      sides_typed types ss agrees,
      same ∙ (f ∙ (λ k. Pair (sym left k) (sym right k))),
      nodes_typed law i g (inside ss env) m a types has h rest uses plain,
      nodes_typed law i g (inside ss env) n b types hasn j restn usesn plainn,
    )
nodes_typed law i g env (Two u ss OfSeq m n) t types (e, has, hasn) (d, h, j) (agrees, rest, restn) (uses, usesn) (plain, plainn) =
    let same : u ≡ t = node_typed law i g env (Two u ss OfSeq m n) t (e, has, hasn) (d, h, j) in (
      sides_typed types ss agrees,
      (subst (λ (v : Type'). IsDone v) (sym same) d, node_typed law i g (inside ss env) m Com has h, node_typed law i g (inside ss env) n t hasn j ∙ sym same),
      nodes_typed law i g (inside ss env) m Com types has h rest uses plain,
      nodes_typed law i g (inside ss env) n t types hasn j restn usesn plainn,
    )
nodes_typed law i g env (Two u ss OfPar m n) t types (e, has, hasn) (f, h, j, apart) (agrees, rest, restn) (uses, usesn) (plain, plainn) =
    let same : u ≡ t = node_typed law i g env (Two u ss OfPar m n) t (e, has, hasn) (f, h, j, apart) in (
      sides_typed types ss agrees,
      (same ∙ f, node_typed law i g (inside ss env) m Com has h, node_typed law i g (inside ss env) n Com hasn j),
      nodes_typed law i g (inside ss env) m Com types has h rest uses plain,
      nodes_typed law i g (inside ss env) n Com types hasn j restn usesn plainn,
    )
nodes_typed law i g env (Two u ss OfWhile m n) t types (e, has, hasn) (f, h, j) (agrees, rest, restn) (uses, usesn) (plain, plainn) =
    let same : u ≡ t = node_typed law i g env (Two u ss OfWhile m n) t (e, has, hasn) (f, h, j) in (
      sides_typed types ss agrees,
      (same ∙ f, node_typed law i g (inside ss env) m (Exp 1) has h, node_typed law i g (inside ss env) n Com hasn j),
      nodes_typed law i g (inside ss env) m (Exp 1) types has h rest uses plain,
      nodes_typed law i g (inside ss env) n Com types hasn j restn usesn plainn,
    )
nodes_typed law i g env (Two u ss OfAssign m n) t types (e, has, hasn) (w, f, h, j) (agrees, rest, restn) (uses, usesn) (plain, plainn) =
    let same : u ≡ t = node_typed law i g env (Two u ss OfAssign m n) t (e, has, hasn) (w, f, h, j) in (
      sides_typed types ss agrees,
      (w, same ∙ f, node_typed law i g (inside ss env) m (Var w) has h, node_typed law i g (inside ss env) n (Exp w) hasn j),
      nodes_typed law i g (inside ss env) m (Var w) types has h rest uses plain,
      nodes_typed law i g (inside ss env) n (Exp w) types hasn j restn usesn plainn,
    )
nodes_typed law i g env (Two u ss (OfBin op) m n) t types (e, has, hasn) (w, f, h, j) (agrees, rest, restn) (uses, usesn) (plain, plainn) =
    let same : u ≡ t = node_typed law i g env (Two u ss (OfBin op) m n) t (e, has, hasn) (w, f, h, j) in (
      sides_typed types ss agrees,
      (w, same ∙ f, node_typed law i g (inside ss env) m (Exp w) has h, node_typed law i g (inside ss env) n (Exp w) hasn j),
      nodes_typed law i g (inside ss env) m (Exp w) types has h rest uses plain,
      nodes_typed law i g (inside ss env) n (Exp w) types hasn j restn usesn plainn,
    )
nodes_typed law i g env (If u ss m n p) t types (e, has, hasn, hasp) (d, h, j, q) (agrees, rest, restn, restp) (uses, usesn, usesp) (plain, plainn, plainp) =
    let same : u ≡ t = node_typed law i g env (If u ss m n p) t (e, has, hasn, hasp) (d, h, j, q) in (
      sides_typed types ss agrees,
      (
        subst (λ (v : Type'). IsDone v) (sym same) d,
        node_typed law i g (inside ss env) m (Exp 1) has h,
        node_typed law i g (inside ss env) n t hasn j ∙ sym same,
        node_typed law i g (inside ss env) p t hasp q ∙ sym same,
      ),
      nodes_typed law i g (inside ss env) m (Exp 1) types has h rest uses plain,
      nodes_typed law i g (inside ss env) n t types hasn j restn usesn plainn,
      nodes_typed law i g (inside ss env) p t types hasp q restp usesp plainp,
    )

pub checked_is_typed : NodeHasType → CheckedIsTyped
checked_is_typed law l c =
    let is : Imports = (program_in l).imports in
    let m : Numbered = node_seen l.term in
    let light = is_light l c in (
      nodes_typed law is [] (import_at is) m (type_of l.result) (all_types is m) c.term.types c.typed light.agrees light.uses
          (plain_form l.term.ty l.term.splits.items l.term.form),
      node_typed law is [] (import_at is) m (type_of l.result) c.term.types c.typed,
    )

pub skip_is_typed : SkipIsTyped
skip_is_typed = (tt, refl)

pub skip_is_no_expression : SkipIsNoExpression
skip_is_no_expression w (sides, e) = cc e
