-- A plan behind a Share, applied to an argument, and the plan applied to the argument behind a Share, itself behind one: their parts and ports.
-- Without their joints the one is split into the other.
use Rattle.std.specs.Prelude.{◌≡◌, ◌≢◌, ℕ, zero, suc, ◌+◌, ◌<◌, ◌≤◌, [], ◌++◌, length, map, Some, slice_get}
use Rattle.std.proofs.Common.{refl, sym, ◌∙◌, ap, arith, inl, inr}
use Rattle.std.proofs.lemmas.Option.{slice_get_past}
use Rattle.gos_types.specs.Types.{Type', Fun}
use Rattle.gos_types.proofs.ListLemmas.{element_at, none_in_empty}
use Rattle.gos_plan.specs.Kinds.{Share}
use Rattle.gos_plan.specs.Plans.{End, PartEnd, ImportEnd, ResultEnd, Plan}
use Rattle.gos_plan.specs.Tokens.{IsPortEnd}
use Rattle.gos_plan.specs.Joining.{LeftImport, IsJoining}
use Rattle.gos_realises.specs.realises.Wirings.{applying}
use Rattle.gos_realises.proofs.realises.LeftLemmas.{left_list}
use Rattle.gos_joining.specs.webs.Webs.{joint}
use Rattle.gos_joining.specs.webs.Cutting.{StandsIn}
use Rattle.gos_sharing.specs.behind.Behind.{IsBehind}
use Rattle.gos_sharing.proofs.behind.EndLemmas.{share, own_part}
use Rattle.gos_sharing.specs.function_types.Split.{IsSplit}
use Rattle.gos_sharing.proofs.function_types.NumberLemmas as numbered
use Rattle.gos_sharing.proofs.function_types.SideLemmas.{first_part, second_part, lefts}
use Rattle.gos_sharing.proofs.function_types.StandLemmas.{part_count, low_or_more}
use Rattle.gos_sharing.proofs.function_types.HomeLemmas.{one_longer}

-- a plan without its joints
abbrev pub bare : Plan → Plan
bare p = record p { joints = [] }

none_stands : (p : Plan) (e : End) → StandsIn (bare p) e → ⊥
none_stands p e (j, has, stood) = none_in_empty j has

module _ (a b : Type') (c : ℕ) (p q r z y x u : Plan) (of_r : IsBehind (length p.parts) (Fun a b) c r p) (of_z : IsBehind (length q.parts) a c z q)
    (of_y : IsJoining (applying a b p z) y) (of_x : IsJoining (applying a b r q) x) (of_u : IsBehind (suc (length p.parts + length q.parts)) b c u y)
  where
    abbrev P : ℕ
    P = length p.parts

    abbrev Q : ℕ
    Q = length q.parts

    abbrev t : Type'
    t = Fun a b

    r_size : length r.parts ≡ suc P
    r_size = ap length of_r.frame.parts ∙ one_longer p.parts (Share t)

    z_size : length z.parts ≡ suc Q
    z_size = ap length of_z.frame.parts ∙ one_longer q.parts (Share a)

    x_size : length x.parts ≡ suc P + Q
    x_size = part_count a b r q x of_x ∙ ap (λ (n : ℕ). n + Q) r_size

    pub y_size : length y.parts ≡ P + suc Q
    y_size = part_count a b p z y of_y ∙ ap (λ (n : ℕ). P + n) z_size

    u_size : length u.parts ≡ suc (P + suc Q)
    u_size = ap length of_u.frame.parts ∙ (one_longer y.parts (Share b) ∙ ap suc y_size)

    pub wide : slice_get x.parts P ≡ Some (Share t)
    wide = first_part a b r q x of_x P (Share t) (share P t c r p of_r.frame)

    own_u : (n : ℕ) → n < P + suc Q → slice_get u.parts n ≡ slice_get y.parts n
    own_u n low = let s = y_size in own_part (suc (P + Q)) b c u y of_u.frame n (omega (arith, low, s))

    argument : slice_get u.parts (P + Q) ≡ Some (Share a)
    argument = own_u (P + Q) (omega arith) ∙ second_part a b p z y of_y Q (Share a) (share Q a c z q of_z.frame)

    of_function : (n : ℕ) → n < P → slice_get u.parts n ≡ slice_get x.parts n
    of_function n low =
        let (k, there) = element_at p.parts n low in
        own_u n (omega (arith, low))
        ∙ (first_part a b p z y of_y n k there ∙ sym (first_part a b r q x of_x n k (own_part P t c r p of_r.frame n low ∙ there)))

    of_argument : (m : ℕ) → m < Q → slice_get u.parts (P + m) ≡ slice_get x.parts (suc P + m)
    of_argument m low =
        let (k, there) = element_at q.parts m low in
        own_u (P + m) (omega (arith, low))
        ∙ (second_part a b p z y of_y m k (own_part Q a c z q of_z.frame m low ∙ there)
        ∙ sym (ap (λ (n : ℕ). slice_get x.parts (n + m)) (sym r_size) ∙ second_part a b r q x of_x m k there))

    beyond : (n : ℕ) → P + suc Q ≤ n → slice_get u.parts (suc n) ≡ slice_get x.parts n
    beyond n high =
        let s = x_size in
        let l = u_size in
        slice_get_past u.parts (suc n) (omega (arith, l, high)) ∙ sym (slice_get_past x.parts n (omega (arith, s, high)))

    new_part_is : (n : ℕ) → n ≢ P → slice_get u.parts (numbered.new_part a b c P Q n) ≡ slice_get x.parts n
    new_part_is n own =
        elim (low_or_more n P) [
          | inl low ↦ ap (slice_get u.parts) (numbered.low_part a b c P Q n low) ∙ of_function n low
          | inr (zero, sum) ↦ absurd (own (omega (arith, sum)))
          | inr (suc m, sum) ↦
              (let e : n ≡ suc P + m = omega (arith, sum) in
              elim (low_or_more m Q) [
                | inl low ↦
                    ap (λ (l : ℕ). slice_get u.parts (numbered.new_part a b c P Q l)) e
                    ∙ (ap (slice_get u.parts) (numbered.argument_part a b c P Q m low) ∙ (of_argument m low ∙ ap (slice_get x.parts) (sym e)))
                | inr (l, more) ↦
                    (let high : P + suc Q ≤ n = omega (arith, e, more) in
                    ap (slice_get u.parts) (numbered.high_part a b c P Q n high) ∙ beyond n high)
              ])
        ]

    pub same_imports : u.imports ≡ x.imports
    same_imports =
        let first = sym of_r.frame.imports in
        let second = of_z.frame.imports in
        of_u.frame.imports
        ∙ (of_y.imports
        ∙ (ap (map (λ (l : LeftImport). l.import))
        (lefts a b p z y of_y
        ∙ ((λ l. left_list 0 0 (first l) ++ (left_list 1 0 (second l) ++ [])) ∙ sym (lefts a b r q x of_x)))
        ∙ sym of_x.imports))

    pub same_outcome : u.outcome ≡ x.outcome
    same_outcome = of_u.frame.outcome ∙ sym of_x.outcome

    kept_port : (e : End) → IsPortEnd e → numbered.new_end a b c P Q e ≡ e
    kept_port (PartEnd n h) is = absurd is
    kept_port (ImportEnd n h) is = refl
    kept_port (ResultEnd h) is = refl

    pub bare_split : IsSplit (numbered.numbers a b c P Q) (bare x) (bare u)
    bare_split =
        record {
          chosen = of_r.frame.caller;
          wide_share = wide;
          argument_share = argument;
          outcome_share = share (suc (P + Q)) b c u y of_u.frame;
          apart = λ e. omega (arith, e);
          right = tt;
          also_right = tt;
          imports = same_imports;
          outcome = same_outcome;
          parts = λ n own. (let (back, one, other) = numbered.part_facts a b c P Q n own in (new_part_is n own, back, one, other));
          others = numbered.back_facts a b c P Q;
          ports = kept_port;
          ends = numbered.other_end a b c P Q;
          argument_source = numbered.argument_source a b c P Q;
          argument_caller = numbered.argument_caller a b c P Q;
          outcome_source = numbered.outcome_source a b c P Q;
          outcome_caller = numbered.outcome_caller a b c P Q;
          used = λ e stood. absurd (none_stands x e stood);
          returns = numbered.comes_back a b c P Q;
          joints = λ d e has. absurd (none_in_empty (joint d e) has);
          all = λ d e has. absurd (none_in_empty (joint d e) has);
        }
