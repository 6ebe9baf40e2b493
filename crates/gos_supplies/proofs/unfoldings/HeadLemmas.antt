-- Head expansion, by recursion on the type: what is joined to a plan of a head leaves a head below another one.
use Rattle.std.specs.Prelude.{◌≡◌, ℕ, false, List, [], ◌∷◌, ◌++◌, ◌||◌, map, nat_eq}
use Rattle.std.proofs.Common.{refl, sym, ◌∙◌, ap, subst, inr}
use Rattle.std.proofs.lemmas.List.{append-nil}
use Rattle.gos_types.specs.Types.{Type', Com, Exp, Var, Pair, Fun}
use Rattle.gos_types.proofs.BoolLemmas.{and_false}
use Rattle.gos_model.specs.Terms.{Term, Lit, App, Fst, Snd, Assign, Deref}
use Rattle.gos_model.specs.Typing.{Imports, Typed}
use Rattle.gos_model.proofs.HeadLemmas.{head_ready}
use Rattle.gos_plan.specs.Plans.{PartEnd, ResultEnd, Plan}
use Rattle.gos_plan.specs.Joining.{Link, is_joined, left_in, all_left, IsJoining}
use Rattle.gos_realises.specs.realises.Regular.{count}
use Rattle.gos_realises.specs.realises.Links.{IsJoined}
use Rattle.gos_realises.specs.realises.Wirings.{link, writing, applying}
use Rattle.gos_realises.specs.realises.Realises.{HaveOtherNames, Suits, Means}
use Rattle.gos_realises.proofs.realises.ReadyLemmas.{ready_is_realised}
use Rattle.gos_realises.proofs.joined.OriginLemmas.{import_of}
use Rattle.gos_supplies.proofs.applications.SeamLemmas.{listed, left_none, listed_imports}
use Rattle.gos_supplies.proofs.applications.SideLemmas.{side_imports}
use Rattle.gos_supplies.proofs.applications.ReadingLemmas.{reading_imports}
use Rattle.gos_supplies.proofs.applications.TogetherLemmas.{imports_of}
use Rattle.gos_supplies.specs.unfoldings.Heads.{UnfoldsHead, HeadIsRealised}
use Rattle.gos_supplies.proofs.unfoldings.OneWayLemmas.{deref_ready, put_ready}
use Rattle.gos_supplies.proofs.unfoldings.WriteLemmas.{writing_is_realised}
use Rattle.gos_supplies.proofs.unfoldings.TypingLemmas.{typed_more, among_first, among_second, are_apart}

-- a plan that writes a variable has the imports of the variable's
abbrev write_links : List Link
write_links = link 0 (ResultEnd 1) 1 (PartEnd 0 1) ∷ link 1 (PartEnd 0 0) 2 (ResultEnd 0) ∷ []

none_joined : (k i : ℕ) → is_joined write_links k i ≡ false
none_joined k i =
    let one = and_false (nat_eq 0 k) in
    let middle = and_false (nat_eq 1 k) in
    let last = and_false (nat_eq 2 k) in
    λ j. (one j || middle j) || ((middle j || last j) || false)

writing_left : (w k : ℕ) (p : Plan) → all_left (writing w k p) ≡ listed 0 0 p.imports
writing_left w k p = append-nil (left_in write_links 0 0 p.imports) ∙ left_none write_links 0 (none_joined 0) 0 p.imports

writing_imports : (w k : ℕ) (p r : Plan) → IsJoining (writing w k p) r → r.imports ≡ p.imports
writing_imports w k p r joining = joining.imports ∙ (ap (map import_of) (writing_left w k p) ∙ listed_imports 0 0 p.imports)

-- a plan suits another term of the type
suits_as : (t : Type') (r : Plan) (m n : Term) → Typed r.imports [] m t → Suits t r n → Suits t r m
suits_as t r m n typed suits = record {
  right = suits.right;
  literals = suits.literals;
  outcome = suits.outcome;
  all_ports = suits.all_ports;
  names = suits.names;
  typed = typed;
  regular = suits.regular;
}

pub typed_at : (t : Type') (is js : Imports) (m : Term) → js ≡ is → Typed is [] m t → Typed js [] m t
typed_at t is js m same typed = subst (λ (i : Imports). Typed i [] m t) (sym same) typed

-- an argument shares nothing with the function, since the imports of their plans have other names
pub use_typed : (a b : Type') (p q r : Plan) (m k : Term) → HaveOtherNames p.imports q.imports → Typed p.imports [] m (Fun a b) → Typed q.imports [] k a
    → IsJoined (applying a b p q) r → Typed r.imports [] (App m k) b
use_typed a b p q r m k other typed of_k joined =
    let of_m = typed_more p.imports (p.imports ++ q.imports) (among_first p.imports q.imports) m [] (Fun a b) typed in
    let argument = typed_more q.imports (p.imports ++ q.imports) (among_second p.imports q.imports other) k [] a of_k in
    let apart = are_apart p.imports q.imports m k (Fun a b) a other typed of_k in
    typed_at b (p.imports ++ q.imports) r.imports (App m k) (imports_of a b p q r joined) (a, of_m, argument, apart)

head_means : (t : Type') (p : Plan) (m n : Term) → UnfoldsHead m n → Typed p.imports [] m t → Means t p n → Means t p m
head_means Com p m n head typed done = ready_is_realised p m n (head_ready m n head) done
head_means (Exp w) p m n head typed done = ready_is_realised p m n (head_ready m n head) done
head_means (Var w) p m n head typed (read, written) = (
  λ r joined.
      let (suits, done) = read r joined in
      let here = typed_at (Var w) p.imports r.imports m (reading_imports w p r joined.joining) typed in
      (suits_as (Exp w) r (Deref m) (Deref n) (w, refl, here) suits, ready_is_realised r (Deref m) (Deref n) (deref_ready m n head) done),
  λ r k small joined.
      let (suits, done) = written r k small joined in
      let here = typed_at (Var w) p.imports r.imports m (writing_imports w k p r joined.joining) typed in
      let (v, is_command, of_variable, of_number) = suits.typed in
      let literal : Typed r.imports [] (Lit k w) (Exp w) = (refl, of_number.1, small) in (
        suits_as Com r (Assign m (Lit k w)) (Assign n (Lit k w)) (w, refl, here, literal) suits,
        writing_is_realised r m n k w (put_ready m n k head) done,
      ),
)
head_means (Pair a b) p m n head typed (first, second) = (
  λ r joined.
      let (suits, means) = first r joined in
      let here : Typed r.imports [] (Fst m) a = (b, typed_at (Pair a b) p.imports r.imports m (side_imports a 0 p r joined.joining) typed) in
      (suits_as a r (Fst m) (Fst n) here suits, head_means a r (Fst m) (Fst n) (inr (n, refl, head)) here means),
  λ r joined.
      let (suits, means) = second r joined in
      let here : Typed r.imports [] (Snd m) b = (a, typed_at (Pair a b) p.imports r.imports m (side_imports b (count a) p r joined.joining) typed) in
      (suits_as b r (Snd m) (Snd n) here suits, head_means b r (Snd m) (Snd n) (inr (n, refl, head)) here means),
)
head_means (Fun a b) p m n head typed applied = λ q r k other of_k means_k joined.
    (let (suits, means) = applied q r k other of_k means_k joined in
    let here = use_typed a b p q r m k other typed of_k.typed joined in
    (suits_as b r (App m k) (App n k) here suits, head_means b r (App m k) (App n k) (inr (n, refl, head)) here means))

pub head_is_realised : HeadIsRealised
head_is_realised t p m n head typed realised =
    record { suits = suits_as t p m n typed realised.suits; means = head_means t p m n head typed realised.means }
