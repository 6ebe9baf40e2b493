-- Realising at each type: what is joined to split plans is split.
use Rattle.std.specs.Prelude.{◌≡◌, ◌≢◌, ℕ, zero, suc, Bool, true, false, List, [], ◌∷◌, Some, All, Contains, slice_get, nat_eq}
use Rattle.std.proofs.Common.{refl, sym, ◌∙◌, ap, subst, arith}
use Rattle.std.proofs.lemmas.List.Elements.{All-contains, All-from_recursion}
use Rattle.gos_types.specs.Types.{Type', Com, Exp, Var, Pair, Fun, IsDone}
use Rattle.gos_model.specs.Terms.{Term, Lit, App, Fst, Snd, Assign, Deref}
use Rattle.gos_model.specs.Typing.{Imported, Typed}
use Rattle.gos_plan.specs.Kinds as kinds
use Rattle.gos_plan.specs.Kinds.{Part, Share}
use Rattle.gos_plan.specs.Plans.{PartEnd, ResultEnd, Plan}
use Rattle.gos_plan.specs.TokenBits.{LiteralFits}
use Rattle.gos_plan.specs.Joining.{Link}
use Rattle.gos_realises.specs.realises.Regular.{count, IsRegular}
use Rattle.gos_realises.specs.realises.Matched.{RealisesInTurn}
use Rattle.gos_realises.specs.realises.Links.{IsJoined}
use Rattle.gos_realises.specs.realises.Wirings.{lone, link, results_linked}
use Rattle.gos_realises.specs.realises.Realises.{AllPorts, NamesDiffer, HaveOtherNames, Suits, Means}
use Rattle.gos_realises.proofs.joined.WholeLemmas.{applied_is_joined, sides_are_joined, variables_are_joined}
use Rattle.gos_realises.proofs.realises.LiteralLemmas.{each_fits}
use Rattle.gos_joining.specs.webs.Cutting.{Cut}
use Rattle.gos_sharing.specs.buffers.Buffers.{IsLoyal}
use Rattle.gos_sharing.specs.behind.Source.{IsBefore, HasItsImports}
use Rattle.gos_sharing.proofs.behind.SourceLemmas.{sources_are_loyal}
use Rattle.gos_sharing.specs.function_types.Split.{Splitting, IsSplit}
use Rattle.gos_sharing.specs.function_types.Joined.{wiring}
use Rattle.gos_sharing.specs.function_types.Realised.{SplitIsRealised}
use Rattle.gos_sharing.proofs.function_types.FollowLemmas.{split_is_regular, split_is_done}
use Rattle.gos_sharing.proofs.function_types.JoinedLemmas.{joined_split}
use Rattle.gos_sharing.proofs.function_types.CarriedLemmas.{joined_is_split}
use Rattle.gos_sharing.proofs.function_types.BeforeLemmas.{AllResults, results_are_ports, joined_before, joined_has}

-- literals
pub part_there : (xs : List Part) (k : ℕ) (x : Part) → slice_get xs k ≡ Some x → Contains xs x
part_there [] k x at = absurd (cc at)
part_there (y ∷ xs) zero x at = (0, omega arith, cc at)
part_there (y ∷ xs) (suc k) x at = let (n, within, is) = part_there xs k x at in (suc n, omega (arith, within), is)

-- the links join results
pub no_links : AllResults []
no_links l (k, small, e) = absurd (omega (arith, small))

one_more : (l : Link) (ls : List Link) → Rattle.gos_sharing.proofs.function_types.BeforeLemmas.IsResultPlace l.one → Rattle.gos_sharing.proofs.function_types.BeforeLemmas.IsResultPlace l.other → AllResults ls → AllResults (l ∷ ls)
one_more l ls one other rest m (zero, small, e) =
    (subst (λ (x : Link). Rattle.gos_sharing.proofs.function_types.BeforeLemmas.IsResultPlace x.one) e one, subst (λ (x : Link). Rattle.gos_sharing.proofs.function_types.BeforeLemmas.IsResultPlace x.other) e other)
one_more l ls one other rest m (suc k, small, e) = rest m (k, omega (arith, small), e)

pub results : (n m : ℕ) → AllResults (results_linked 1 n m)
results n zero = no_links
results n (suc m) =
    one_more (link 0 (ResultEnd n) 1 (ResultEnd n)) (results_linked 1 (suc n) m) (λ same. tt) (λ same. tt) (results (suc n) m)

pub read_link : AllResults (link 0 (ResultEnd 0) 1 (PartEnd 0 0) ∷ [])
read_link = one_more (link 0 (ResultEnd 0) 1 (PartEnd 0 0)) [] (λ same. tt) (λ same. absurd (omega (arith, same))) no_links

pub write_links : AllResults (link 0 (ResultEnd 1) 1 (PartEnd 0 1) ∷ link 1 (PartEnd 0 0) 2 (ResultEnd 0) ∷ [])
write_links =
    one_more (link 0 (ResultEnd 1) 1 (PartEnd 0 1)) (link 1 (PartEnd 0 0) 2 (ResultEnd 0) ∷ []) (λ same. tt) (λ same. absurd (omega (arith, same)))
    (one_more (link 1 (PartEnd 0 0) 2 (ResultEnd 0)) [] (λ same. absurd (omega (arith, same))) (λ same. tt) no_links)

-- a plan that is split suits where the split one does
module _ (f : Splitting) (h : Cut) (x u p : Plan) (is : IsSplit f x u) (before : IsBefore h f.wide (Fun f.of f.to) f.caller x p) (own : HasItsImports h x p) (regular : IsRegular p) where
  literal : All LiteralFits u.parts → (k : ℕ) (y : Part) → slice_get x.parts k ≡ Some y → LiteralFits y
  literal fit k y there = by_number (nat_eq k f.wide) refl
    where
      by_number : (b : Bool) → nat_eq k f.wide ≡ b → LiteralFits y
      by_number true test =
          let same : k ≡ f.wide = grind (arith, test) in
          let both : Some (Share (Fun f.of f.to)) ≡ Some y = sym is.wide_share ∙ (ap (slice_get x.parts) (sym same) ∙ there) in
          let one : Share (Fun f.of f.to) ≡ y = cc both in subst LiteralFits one tt
      by_number false test =
          let own : k ≢ f.wide = (λ e. let t : nat_eq k f.wide ≡ true = grind (arith, e) in let clash : true ≡ false = sym t ∙ test in cc clash) in
          All-contains LiteralFits u.parts y fit (part_there u.parts (f.part k) y ((is.parts k own).0 ∙ there))

  loyal : IsLoyal f.wide f.caller (Fun f.of f.to) x
  loyal = sources_are_loyal h f.wide (Fun f.of f.to) f.caller x p before own regular

  pub suits_back : (t : Type') (m : Term) → Suits t u m → Suits t x m
  suits_back t m suits =
      record {
        right = is.right;
        literals = All-from_recursion LiteralFits x.parts (each_fits x.parts (literal suits.literals));
        outcome = sym is.outcome ∙ suits.outcome;
        all_ports = subst AllPorts is.imports suits.all_ports;
        names = subst NamesDiffer is.imports suits.names;
        typed = subst (λ (js : List Imported). Typed js [] m t) is.imports suits.typed;
        regular = split_is_regular f x u is loyal suits.regular;
      }

  pub done_back : (t : Type') (m : Term) → IsDone t → Suits t u m → RealisesInTurn u m → RealisesInTurn x m
  done_back t m done suits realised =
      split_is_done f x u m is loyal suits.regular realised

  -- with others joined to its result
  module _ (ps : List Plan) (ls : List Link) (giver skipped : ℕ) (ty : Type') (kept : AllResults ls) (r s : Plan) (of_x : IsJoined (wiring x ps ls giver skipped ty) r)
      (of_u : IsJoined (wiring u ps ls giver skipped ty) s)
    where
      pub split_joined : IsSplit (joined_split f x u is) r s
      split_joined = joined_is_split f x u is ps ls giver skipped ty (results_are_ports ls kept) r s of_x.joining of_u.joining

      pub before_joined : IsBefore h f.wide (Fun f.of f.to) f.caller r p
      before_joined = joined_before h f.wide (Fun f.of f.to) f.caller x p before ps ls giver skipped ty kept r of_x.joining

      pub own_joined : HasItsImports h r p
      own_joined = joined_has h f.wide (Fun f.of f.to) f.caller x p before ps ls giver skipped ty kept r of_x.joining own

means_back : (t : Type') (f : Splitting) (h : Cut) (x u p : Plan) (m : Term) → (is : IsSplit f x u) → IsBefore h f.wide (Fun f.of f.to) f.caller x p → HasItsImports h x p → IsRegular p
    → Suits t u m → Means t u m → Means t x m
means_back Com f h x u p m is before own regular suits means = done_back f h x u p is before own regular Com m tt suits means
means_back (Exp w) f h x u p m is before own regular suits means = done_back f h x u p is before own regular (Exp w) m tt suits means
means_back (Var w) f h x u p m is before own regular suits (reads, writes) = (
  λ r joined.
      (let (s, joined_s) = (variables_are_joined w 0 u suits.right suits.outcome).0 in
      let split = split_joined f h x u p is before own regular (lone (kinds.Deref w) 1 (Exp w) ∷ []) (link 0 (ResultEnd 0) 1 (PartEnd 0 0) ∷ []) 1 0 (Exp w) read_link r s joined joined_s in
      let now = before_joined f h x u p is before own regular (lone (kinds.Deref w) 1 (Exp w) ∷ []) (link 0 (ResultEnd 0) 1 (PartEnd 0 0) ∷ []) 1 0 (Exp w) read_link r s joined joined_s in
      let ours = own_joined f h x u p is before own regular (lone (kinds.Deref w) 1 (Exp w) ∷ []) (link 0 (ResultEnd 0) 1 (PartEnd 0 0) ∷ []) 1 0 (Exp w) read_link r s joined joined_s in
      let (also, done) = reads s joined_s in (
        suits_back (joined_split f x u is) h r s p split now ours regular (Exp w) (Deref m) also,
        done_back (joined_split f x u is) h r s p split now ours regular (Exp w) (Deref m) tt also done,
      )),
  λ r k small joined.
      (let (s, joined_s) = (variables_are_joined w k u suits.right suits.outcome).1 in
      let split = split_joined f h x u p is before own regular (lone (kinds.Assign w) 2 Com ∷ lone (kinds.Lit w k) 0 (Exp w) ∷ []) (link 0 (ResultEnd 1) 1 (PartEnd 0 1) ∷ link 1 (PartEnd 0 0) 2 (ResultEnd 0) ∷ []) 1 0 Com write_links r s joined joined_s in
      let now = before_joined f h x u p is before own regular (lone (kinds.Assign w) 2 Com ∷ lone (kinds.Lit w k) 0 (Exp w) ∷ []) (link 0 (ResultEnd 1) 1 (PartEnd 0 1) ∷ link 1 (PartEnd 0 0) 2 (ResultEnd 0) ∷ []) 1 0 Com write_links r s joined joined_s in
      let ours = own_joined f h x u p is before own regular (lone (kinds.Assign w) 2 Com ∷ lone (kinds.Lit w k) 0 (Exp w) ∷ []) (link 0 (ResultEnd 1) 1 (PartEnd 0 1) ∷ link 1 (PartEnd 0 0) 2 (ResultEnd 0) ∷ []) 1 0 Com write_links r s joined joined_s in
      let (also, done) = writes s k small joined_s in (
        suits_back (joined_split f x u is) h r s p split now ours regular Com (Assign m (Lit k w)) also,
        done_back (joined_split f x u is) h r s p split now ours regular Com (Assign m (Lit k w)) tt also done,
      )),
)
means_back (Pair a b) f h x u p m is before own regular suits (first, second) = (
  λ r joined.
      (let (s, joined_s) = (sides_are_joined a b u suits.right suits.outcome).0 in
      let split = split_joined f h x u p is before own regular [] [] 0 0 a no_links r s joined joined_s in
      let now = before_joined f h x u p is before own regular [] [] 0 0 a no_links r s joined joined_s in
      let ours = own_joined f h x u p is before own regular [] [] 0 0 a no_links r s joined joined_s in
      let (also, meant) = first s joined_s in
      (suits_back (joined_split f x u is) h r s p split now ours regular a (Fst m) also, means_back a (joined_split f x u is) h r s p (Fst m) split now ours regular also meant)),
  λ r joined.
      (let (s, joined_s) = (sides_are_joined a b u suits.right suits.outcome).1 in
      let split = split_joined f h x u p is before own regular [] [] 0 (count a) b no_links r s joined joined_s in
      let now = before_joined f h x u p is before own regular [] [] 0 (count a) b no_links r s joined joined_s in
      let ours = own_joined f h x u p is before own regular [] [] 0 (count a) b no_links r s joined joined_s in
      let (also, meant) = second s joined_s in
      (suits_back (joined_split f x u is) h r s p split now ours regular b (Snd m) also, means_back b (joined_split f x u is) h r s p (Snd m) split now ours regular also meant)),
)
means_back (Fun a b) f h x u p m is before own regular suits means = λ q r n names of_q meant_q joined.
    let (s, joined_s) = applied_is_joined a b u q suits.right of_q.right suits.outcome of_q.outcome in
    let split = split_joined f h x u p is before own regular (q ∷ []) (results_linked 1 0 (count a)) 0 (count a) b (results 0 (count a)) r s joined joined_s in
    let now = before_joined f h x u p is before own regular (q ∷ []) (results_linked 1 0 (count a)) 0 (count a) b (results 0 (count a)) r s joined joined_s in
    let ours = own_joined f h x u p is before own regular (q ∷ []) (results_linked 1 0 (count a)) 0 (count a) b (results 0 (count a)) r s joined joined_s in
    let apart = subst (λ (js : List Imported). HaveOtherNames js q.imports) (sym is.imports) names in
    let (also, meant) = means q s n apart of_q meant_q joined_s in
    (suits_back (joined_split f x u is) h r s p split now ours regular b (App m n) also, means_back b (joined_split f x u is) h r s p (App m n) split now ours regular also meant)

pub split_is_realised : SplitIsRealised
split_is_realised f h x u p t m is before own regular realised =
    record {
      suits = suits_back f h x u p is before own regular t m realised.suits;
      means = means_back t f h x u p m is before own regular realised.suits realised.means;
    }
