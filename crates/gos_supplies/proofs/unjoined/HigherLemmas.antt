-- The whole realises what the plan realises, at each type.
use Rattle.std.specs.Prelude.{◌≡◌, ℕ, zero, suc, List, [], ◌∷◌, ◌++◌, All}
use Rattle.std.proofs.Common.{refl, sym, ◌∙◌, ap, subst, arith}
use Rattle.gos_types.specs.Types.{Type', Com, Exp, Var, Pair, Fun}
use Rattle.gos_model.specs.Terms.{Term, Lit, App, Fst, Snd, Assign, Deref}
use Rattle.gos_model.specs.Typing.{Imports}
use Rattle.gos_plan.specs.Kinds as kinds
use Rattle.gos_plan.specs.Plans.{PartEnd, ResultEnd, Plan}
use Rattle.gos_plan.specs.Joining.{Link, all_parts}
use Rattle.gos_plan.specs.TokenBits.{LiteralFits}
use Rattle.gos_realises.specs.realises.Regular.{count}
use Rattle.gos_realises.specs.realises.Matched.{RealisesInTurn}
use Rattle.gos_realises.specs.realises.Links.{IsJoined}
use Rattle.gos_realises.specs.realises.Wirings.{lone, link, results_linked}
use Rattle.gos_realises.specs.realises.Realises.{AllPorts, NamesDiffer, HaveOtherNames, Suits, Means, Realises}
use Rattle.gos_realises.proofs.realises.LiteralLemmas.{no_literals, reading_literals, writing_literals, literals_append, literals_joined}
use Rattle.gos_programs.proofs.contexts.WideningLemmas.{sources_known}
use Rattle.gos_realises.proofs.realises.PlaceLemmas.{differ_both}
use Rattle.gos_realises.proofs.joined.WholeLemmas.{applied_is_joined, sides_are_joined, variables_are_joined}
use Rattle.gos_supplies.specs.unjoined.Beside.{Placing}
use Rattle.gos_supplies.proofs.unjoined.PlacedLemmas.{IsPlaced}
use Rattle.gos_supplies.proofs.unjoined.RegularLemmas.{whole_regular}
use Rattle.gos_supplies.proofs.unjoined.ImportLemmas.{among, typed_more, ports_both}
use Rattle.gos_supplies.proofs.unjoined.DoneLemmas.{own_imports, whole_done}
use Rattle.gos_supplies.proofs.unjoined.LeftLemmas.{ArePlain, all_imports}
use Rattle.gos_supplies.proofs.unjoined.JoinedLemmas.{wiring, numbers, large_imports, joinings_placed}

results_plain : (n m : ℕ) → ArePlain (results_linked 1 n m)
results_plain n zero = tt
results_plain n (suc m) = (tt, tt, results_plain (suc n) m)

reading_plain : ArePlain (link 0 (ResultEnd 0) 1 (PartEnd 0 0) ∷ [])
reading_plain = (tt, omega arith, tt)

writing_plain : ArePlain (link 0 (ResultEnd 1) 1 (PartEnd 0 1) ∷ link 1 (PartEnd 0 0) 2 (ResultEnd 0) ∷ [])
writing_plain = (tt, omega arith, (omega arith, tt, tt))

-- imports that may stand for a plan's
abbrev pub Fine : Imports → Type 0
Fine is = AllPorts is × NamesDiffer is

pub no_others : (is : Imports) → HaveOtherNames is []
no_others is i j has (k, small, e) = absurd (omega (arith, small))

pub more_fine : (is js : Imports) → Fine is → Fine js → HaveOtherNames is js → Fine (is ++ js)
more_fine is js one other apart = (ports_both is js one.0 other.0, differ_both is js one.1 other.1 apart)

pub append_none : (is : Imports) → is ++ [] ≡ is
append_none [] = refl
append_none (i ∷ is) = ap (λ (js : Imports). i ∷ js) (append_none is)

-- what suits
module _ (f : Placing) (r c : Plan) (is : IsPlaced f r c) (literals : All LiteralFits r.parts) (fine : Fine r.imports) where
  suits_whole : (t : Type') (m : Term) → Suits t c m → Suits t r m
  suits_whole t m suits =
      record {
        right = is.whole_right;
        literals = literals;
        outcome = is.outcome ∙ suits.outcome;
        all_ports = fine.0;
        names = fine.1;
        typed = typed_more c.imports r.imports (among c.imports r.imports fine.1 (own_imports f r c is)) [] m t suits.typed;
        regular = whole_regular f r c is suits.regular;
      }

  done_whole : (t : Type') (m : Term) → Suits t c m → RealisesInTurn c m → RealisesInTurn r m
  done_whole t m suits done = whole_done f r c is m fine.1 (sources_known c.imports [] m t suits.typed) done

abbrev DoneToo : Type' → Plan → Term → Type 0
DoneToo t r m = Suits t r m × RealisesInTurn r m

done_too : (f : Placing) (r c : Plan) (t : Type') (m : Term) → IsPlaced f r c → All LiteralFits r.parts → Fine r.imports → DoneToo t c m → DoneToo t r m
done_too f r c t m is literals fine (suits, done) = (suits_whole f r c is literals fine t m suits, done_whole f r c is literals fine t m suits done)

-- the joinings with the whole and with the plan
module _ (f : Placing) (p q : Plan) (is : IsPlaced f p q) (ps : List Plan) (ls : List Link) (plain : ArePlain ls) (giver skipped : ℕ) (t : Type') (r s : Plan)
    (of_p : IsJoined (wiring p ps ls giver skipped t) r) (of_q : IsJoined (wiring q ps ls giver skipped t) s)
  where
    abbrev Joined : Type 0
    Joined = (g : Placing) × IsPlaced g r s × All LiteralFits r.parts × Fine r.imports

    joined : All LiteralFits p.parts → All LiteralFits (all_parts ps) → Fine p.imports → Fine (all_imports ps) → HaveOtherNames p.imports (all_imports ps)
        → Joined
    joined literals others fine also apart = (
      numbers f p q is ps ls plain giver skipped t,
      joinings_placed f p q is ps ls plain giver skipped t r s of_p.joining of_q.joining,
      literals_joined p ps r of_p.joining.parts literals others,
      subst Fine (sym (large_imports f p q is ps ls plain giver skipped t r s of_p.joining of_q.joining))
          (more_fine p.imports (all_imports ps) fine also apart),
    )

means_whole : (t : Type') (f : Placing) (r c : Plan) (m : Term) → IsPlaced f r c → All LiteralFits r.parts → Fine r.imports → Suits t c m → Means t c m → Means t r m
means_whole Com f r c m is literals fine suits means = done_whole f r c is literals fine Com m suits means
means_whole (Exp w) f r c m is literals fine suits means = done_whole f r c is literals fine (Exp w) m suits means
means_whole (Var w) f r c m is literals fine suits (reads, writes) = (
  λ x of_x.
      (let (y, of_y) = (variables_are_joined w 0 c suits.right suits.outcome).0 in
      let (g, placed, fit, fine_x) =
      joined f r c is (lone (kinds.Deref w) 1 (Exp w) ∷ []) (link 0 (ResultEnd 0) 1 (PartEnd 0 0) ∷ []) reading_plain 1 0 (Exp w) x y of_x of_y literals
      (reading_literals w) fine (tt, tt)
      (no_others r.imports)
      in
      done_too g x y (Exp w) (Deref m) placed fit fine_x (reads y of_y)),
  λ x k small of_x.
      (let (y, of_y) = (variables_are_joined w k c suits.right suits.outcome).1 in
      let (g, placed, fit, fine_x) =
      joined f r c is (lone (kinds.Assign w) 2 Com ∷ lone (kinds.Lit w k) 0 (Exp w) ∷ [])
      (link 0 (ResultEnd 1) 1 (PartEnd 0 1) ∷ link 1 (PartEnd 0 0) 2 (ResultEnd 0) ∷ []) writing_plain 1 0 Com x y of_x of_y literals
      (writing_literals w k small) fine (tt, tt) (no_others r.imports)
      in
      done_too g x y Com (Assign m (Lit k w)) placed fit fine_x (writes y k small of_y)),
)
means_whole (Pair a b) f r c m is literals fine suits (first, second) = (
  λ x of_x.
      (let (y, of_y) = (sides_are_joined a b c suits.right suits.outcome).0 in
      let (g, placed, fit, fine_x) = joined f r c is [] [] tt 0 0 a x y of_x of_y literals no_literals fine (tt, tt) (no_others r.imports) in
      let (also, meant) = first y of_y in
      (suits_whole g x y placed fit fine_x a (Fst m) also, means_whole a g x y (Fst m) placed fit fine_x also meant)),
  λ x of_x.
      (let (y, of_y) = (sides_are_joined a b c suits.right suits.outcome).1 in
      let (g, placed, fit, fine_x) = joined f r c is [] [] tt 0 (count a) b x y of_x of_y literals no_literals fine (tt, tt) (no_others r.imports) in
      let (also, meant) = second y of_y in
      (suits_whole g x y placed fit fine_x b (Snd m) also, means_whole b g x y (Snd m) placed fit fine_x also meant)),
)
means_whole (Fun a b) f r c m is literals fine suits means = λ z x n apart of_z meant_z of_x.
    let (y, of_y) = applied_is_joined a b c z suits.right of_z.right suits.outcome of_z.outcome in
    let same : z.imports ≡ all_imports (z ∷ []) = sym (append_none z.imports) in
    let (g, placed, fit, fine_x) =
    joined f r c is (z ∷ []) (results_linked 1 0 (count a)) (results_plain 0 (count a)) 0 (count a) b x y of_x of_y literals
    (literals_append z.parts [] of_z.literals no_literals) fine
    (subst Fine same (of_z.all_ports, of_z.names)) (subst (HaveOtherNames r.imports) same apart)
    in
    let own : HaveOtherNames c.imports z.imports = λ i j in_c in_z. apart i j (own_imports f r c is i in_c) in_z in
    let (also, meant) = means z y n own of_z meant_z of_y in
    (suits_whole g x y placed fit fine_x b (App m n) also, means_whole b g x y (App m n) placed fit fine_x also meant)

pub whole_realises : (t : Type') (f : Placing) (r c : Plan) (m : Term) → IsPlaced f r c → All LiteralFits r.parts → AllPorts r.imports → NamesDiffer r.imports → Realises t c m → Realises t r m
whole_realises t f r c m is literals ports names realised =
    record {
      suits = suits_whole f r c is literals (ports, names) t m realised.suits;
      means = means_whole t f r c m is literals (ports, names) realised.suits realised.means;
    }
