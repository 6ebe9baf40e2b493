-- The ends of a block's body: where they stand in the whole, and what the body sees of the rest. It hangs on an end of the server.
use Rattle.std.specs.Prelude.{◌≡◌, ◌≢◌, ◌⊎◌, ℕ, zero, suc, Bool, true, false, Option, Some, None, nat_eq, slice_get}
use Rattle.std.proofs.Common.{arith, refl, sym, ap, subst, inl, inr, ◌∙◌}
use Rattle.std.proofs.lemmas.Option.{slice_get_within}
use Rattle.gos_types.specs.Types.{Type', IsDone}
use Rattle.gos_types.specs.Events.{Direction}
use Rattle.gos_model.specs.Typing.{Imported}
use Rattle.gos_plan.specs.Kinds.{asks, contacts_of}
use Rattle.gos_plan.specs.Firing.{Slot}
use Rattle.gos_plan.specs.Plans.{End, PartEnd, ImportEnd, ResultEnd, Plan, contact_at, contacts_of_import, turned_if}
use Rattle.gos_plan.specs.Tokens.{Tokens, IsPortEnd, places_of, with_token, end_of, shake_of}
use Rattle.gos_plan.proofs.JointLemmas.{Found, contained, found, has_place, joined, stands_there, asking_stands, serving_stands, which_end}
use Rattle.gos_nodes.specs.sessions.Sessions.{bits}
use Rattle.gos_joining.specs.webs.Cutting.{lies_at, StandsIn, cut_tokens}
use Rattle.gos_joining.proofs.webs.MovedLemmas.{listed}
use Rattle.gos_joining.proofs.webs.CutLemmas.{name_by, Owns, port_own, port_lies, token_lost, stands_own}
use Rattle.gos_realises.specs.realises.Regular.{count}
use Rattle.gos_joining.specs.webs.Webs.{joint}
use Rattle.gos_nodes.specs.parallel.Parallel.{IsJointOf}
use Rattle.gos_nodes.proofs.windows.AskedLemmas.{done_contact}
use Rattle.gos_nodes.specs.blocks.Servers.{run_of}
use Rattle.gos_nodes.specs.blocks.Block.{Block, IsBlock}
use Rattle.gos_nodes.proofs.parallel.HungLemmas.{HeldBy, IsHung, result_shake}

-- the end of the body at which the part asks, and those at which it serves
abbrev pub port : Block → ℕ → End
port b zero = ResultEnd 0
port b (suc h) = ImportEnd b.place h

abbrev pub IsPort : Block → End → Type 0
IsPort b e = (h : ℕ) × (h ≡ run_of b.server → ⊥) × (e ≡ port b h)

-- what lies behind an end of the whole: an end that the part has, or an import of both
pub data Inner (r : Plan) (b : Block) (x e : End) : Type 0 where
  at_port : (h : ℕ) → x ≡ PartEnd b.own h → e ≡ port b h → Inner r b x e
  at_import :
      (i j n : ℕ) → x ≡ ImportEnd j n → e ≡ ImportEnd i n → i ≢ b.place → StandsIn b.body (ImportEnd i n) → b.cut.outer (ImportEnd i n) ≡ ImportEnd j n
      → slice_get b.body.imports i ≡ slice_get r.imports j → Inner r b x e

-- whether an import stands for the variable
pub data Which (b : Block) (i : ℕ) : Type 0 where
  variable : i ≡ b.place → Which b i
  other : i ≢ b.place → Which b i

pub which : (b : Block) (i : ℕ) → Which b i
which b i = by_test (nat_eq i b.place) refl
  where
    by_test : (t : Bool) → nat_eq i b.place ≡ t → Which b i
    by_test true e = variable (grind (arith, e))
    by_test false e = other (λ same. let clash : true ≡ false = grind (arith, e, same) in cc clash)

module _ (r : Plan) (b : Block) (is : IsBlock r b) where
  pub body_done : IsDone b.body.outcome
  body_done = subst IsDone (sym is.outcome) is.done

  pub body_shake : (n : ℕ) → StandsIn b.body (ResultEnd n) → n ≡ 0
  body_shake = result_shake b.body is.cut.right body_done

  pub served_at : (i h : ℕ) → i ≡ b.place → b.cut.outer (ImportEnd i h) ≡ PartEnd b.own (suc h)
  served_at i h same = ap (λ n. b.cut.outer (ImportEnd n h)) same ∙ is.served h

  pub inner_is : (x e : End) → b.cut.inner x ≡ Some e → Inner r b x e
  inner_is x e at = by_end e (is.cut.inners x e at)
    where
      by_end : (e : End) → IsPortEnd e × StandsIn b.body e × (b.cut.outer e ≡ x) → Inner r b x e
      by_end (PartEnd i n) (port', stands, at) = absurd port'
      by_end (ImportEnd i n) (port', stands, at) = by_which (which b i)
        where
          by_which : Which b i → Inner r b x (ImportEnd i n)
          by_which (variable same) = at_port (suc n) (sym at ∙ served_at i n same) (ap (λ m. ImportEnd m n) same)
          by_which (other apart) =
              let (j, leads, slices) = is.imports i n apart stands in at_import i j n (sym at ∙ leads) refl apart stands leads slices
      by_end (ResultEnd n) (port', stands, at) =
          let none = body_shake n stands in
          at_port 0 (sym at ∙ (ap (λ m. b.cut.outer (ResultEnd m)) none ∙ is.result)) (ap (λ m. ResultEnd m) none)

  pub import_inner : (j n : ℕ) (e : End) → b.cut.inner (ImportEnd j n) ≡ Some e
      → (i : ℕ) × (e ≡ ImportEnd i n) × (i ≢ b.place) × StandsIn b.body (ImportEnd i n) × (b.cut.outer (ImportEnd i n) ≡ ImportEnd j n)
      × (slice_get b.body.imports i ≡ slice_get r.imports j)
  import_inner j n e at = by_inner (inner_is (ImportEnd j n) e at)
    where
      by_inner : Inner r b (ImportEnd j n) e
          → (i : ℕ) × (e ≡ ImportEnd i n) × (i ≢ b.place) × StandsIn b.body (ImportEnd i n) × (b.cut.outer (ImportEnd i n) ≡ ImportEnd j n)
          × (slice_get b.body.imports i ≡ slice_get r.imports j)
      by_inner (at_port h at same) = absurd (cc at)
      by_inner (at_import i a m at same apart stands leads also) =
          let import : j ≡ a = cc at in
          let shake : m ≡ n = cc at in (
            i,
            same ∙ ap (λ n. ImportEnd i n) shake,
            apart,
            subst (λ n. StandsIn b.body (ImportEnd i n)) shake stands,
            ap (λ n. b.cut.outer (ImportEnd i n)) (sym shake) ∙ (leads ∙ sym at),
            also ∙ ap (λ n. slice_get r.imports n) (sym import),
          )

  pub no_inner_result : (n : ℕ) → b.cut.inner (ResultEnd n) ≡ None
  no_inner_result n = by_inner (b.cut.inner (ResultEnd n)) refl
    where
      never : (e : End) → Inner r b (ResultEnd n) e → ⊥
      never e (at_port h at same) = cc at
      never e (at_import i j m at same apart stands leads also) = cc at

      by_inner : (o : Option End) → b.cut.inner (ResultEnd n) ≡ o → o ≡ None
      by_inner None at = refl
      by_inner (Some e) at = absurd (never e (inner_is (ResultEnd n) e at))

  pub no_inner_part : (i n : ℕ) → (i ≡ b.own → ⊥) → b.cut.inner (PartEnd i n) ≡ None
  no_inner_part i n apart = by_inner (b.cut.inner (PartEnd i n)) refl
    where
      never : (e : End) → Inner r b (PartEnd i n) e → ⊥
      never e (at_port h at same) = let one : i ≡ b.own = cc at in apart one
      never e (at_import m j l at same apart stands leads also) = cc at

      by_inner : (o : Option End) → b.cut.inner (PartEnd i n) ≡ o → o ≡ None
      by_inner None at = refl
      by_inner (Some e) at = absurd (never e (inner_is (PartEnd i n) e at))

  -- one that has no place stands in no joint
  port_unjoined : (h : ℕ) → places_of b.body (port b h) ≡ None → StandsIn b.body (port b h) → ⊥
  port_unjoined h none (j, listing, stands) = has_place b.body.joints j (port b h) (contained b.body.joints j listing) stands none

  -- the end of the body that stands at an end of the part
  pub port_alone : (e : End) → Owns b.body e → (h : ℕ) → lies_at b.cut e ≡ PartEnd b.own h → e ≡ port b h
  port_alone (PartEnd i n) (part, there) h at =
      let number = (is.cut.parts i part there).1 in
      let same : b.cut.part i ≡ b.own = cc at in
      let clash : None ≡ Some i = sym is.outside ∙ (ap b.cut.number (sym same) ∙ number) in absurd (cc clash)
  port_alone (ImportEnd i n) stands h at = by_which (which b i)
    where
      by_which : Which b i → ImportEnd i n ≡ port b h
      by_which (variable same) =
          let ends : PartEnd b.own (suc n) ≡ PartEnd b.own h = sym (served_at i n same) ∙ at in
          let shake : suc n ≡ h = cc ends in
          subst (λ m. ImportEnd i n ≡ port b m) shake (ap (λ m. ImportEnd m n) same)
      by_which (other apart) =
          let (j, leads, also) = is.imports i n apart stands in
          let bad : ImportEnd j n ≡ PartEnd b.own h = sym leads ∙ at in absurd (cc bad)
  port_alone (ResultEnd n) stands h at =
      let none = body_shake n stands in
      let ends : PartEnd b.own 0 ≡ PartEnd b.own h = sym (ap (λ m. b.cut.outer (ResultEnd m)) none ∙ is.result) ∙ at in
      let shake : 0 ≡ h = cc ends in
      subst (λ m. ResultEnd n ≡ port b m) shake (ap (λ m. ResultEnd m) none)

  -- the handshakes of the variable are those of the supply
  pub variable_contact : (h : ℕ) → contact_at b.body (ImportEnd b.place h) ≡ slice_get (contacts_of b.server.supply) h
  variable_contact h =
      ap (λ (o : Option Imported). slice_get (contacts_of_import o) h) is.there
      ∙ ap (λ (t : Type'). slice_get (contacts_of t) h) is.type

  -- it has no more
  no_more : StandsIn b.body (ImportEnd b.place (count b.server.supply)) → ⊥
  no_more (j, listing, stands) =
      let last = count b.server.supply in
      let place = stands_there b.body j (ImportEnd b.place last) is.cut.right (contained b.body.joints j listing) stands in
      let one = joined b.body (ImportEnd b.place last) j.asking is.cut.right place in
      let low = slice_get_within (contacts_of b.server.supply) last one.here (sym (variable_contact last) ∙ one.is_here) in
      omega (arith, low)

  -- no end of the body stands at the end by which the part is run
  pub run_unseen : b.cut.inner (PartEnd b.own (run_of b.server)) ≡ None
  run_unseen = by_inner (b.cut.inner (PartEnd b.own (run_of b.server))) refl
    where
      never : (e : End) → b.cut.inner (PartEnd b.own (run_of b.server)) ≡ Some e → ⊥
      never e at =
          let (port', stands, leads) = is.cut.inners (PartEnd b.own (run_of b.server)) e at in
          let last = port_alone e (port_own b.body e port' stands) (run_of b.server) (port_lies b.cut e port' ∙ leads) in
          no_more (subst (λ (x : End). StandsIn b.body x) last stands)

      by_inner : (o : Option End) → b.cut.inner (PartEnd b.own (run_of b.server)) ≡ o → o ≡ None
      by_inner None at = refl
      by_inner (Some e) at = absurd (never e at)

  -- and none where the body has no joint at its end
  pub no_inner_port : (h : ℕ) → places_of b.body (port b h) ≡ None → b.cut.inner (PartEnd b.own h) ≡ None
  no_inner_port h none = by_inner (b.cut.inner (PartEnd b.own h)) refl
    where
      never : (e : End) → b.cut.inner (PartEnd b.own h) ≡ Some e → ⊥
      never e at =
          let (port', stands, leads) = is.cut.inners (PartEnd b.own h) e at in
          let last = port_alone e (port_own b.body e port' stands) h (port_lies b.cut e port' ∙ leads) in
          port_unjoined h none (subst (λ (x : End). StandsIn b.body x) last stands)

      by_inner : (o : Option End) → b.cut.inner (PartEnd b.own h) ≡ o → o ≡ None
      by_inner None at = refl
      by_inner (Some e) at = absurd (never e at)

  -- what no end of the region sees
  pub part_unseen : (i n : ℕ) → b.cut.number i ≡ None → b.cut.inner (PartEnd i n) ≡ None → (way : Direction) (held : Option ℕ) (s : Tokens)
      → cut_tokens b.cut b.body (with_token r (PartEnd i n) way held s) ≡ cut_tokens b.cut b.body s
  part_unseen i n out none way held s =
      token_lost b.cut r b.body is.cut (PartEnd i n) (ap (name_by b.cut i n) out ∙ none) way held s

  slot_unseen : (i : ℕ) → b.cut.number i ≡ None → (i ≡ b.own → ⊥) → (slot : Slot) (way : Direction) (held : Option ℕ) (s : Tokens)
      → cut_tokens b.cut b.body (with_token r (end_of i slot) way held s) ≡ cut_tokens b.cut b.body s
  slot_unseen i out apart slot way held s = part_unseen i (shake_of slot) out (no_inner_part i (shake_of slot) apart) way held s

  -- the result is asked and answers
  pub result_there : contact_at b.body (ResultEnd 0) ≡ Some (asks 0 (bits r.outcome))
  result_there = ap (λ (t : Type'). turned_if (slice_get (contacts_of t) 0)) is.outcome ∙ done_contact r.outcome is.done

  -- an end of the part that stands in a joint is joined to the body's
  pub joined_port : (h : ℕ) → (h ≡ run_of b.server → ⊥) → (a : End) → places_of r (PartEnd b.own h) ≡ Some a → Owns b.body (port b h)
  joined_port h apart a named =
      elim (is.joints there.joint.asking there.joint.serving (listed r.joints there.joint there.is_in)) [
        | inl own ↦ of_joint own which
        | inr run ↦
            elim which [
              | inl one ↦ let bad : PartEnd b.own h ≡ ResultEnd 0 = one ∙ run.0 in absurd (cc bad)
              | inr one ↦ let ends : PartEnd b.own h ≡ PartEnd b.own (run_of b.server) = one ∙ run.1 in let shake : h ≡ run_of b.server = cc ends in absurd (apart shake)
            ]
      ]
    where
      there : Found r.joints (PartEnd b.own h) a
      there = found r.joints (PartEnd b.own h) a named

      which : (PartEnd b.own h ≡ there.joint.asking) ⊎ (PartEnd b.own h ≡ there.joint.serving)
      which = which_end (PartEnd b.own h) there.joint there.stands

      of_joint : IsJointOf b.cut b.body there.joint.asking there.joint.serving
          → (PartEnd b.own h ≡ there.joint.asking) ⊎ (PartEnd b.own h ≡ there.joint.serving) → Owns b.body (port b h)
      of_joint (x, y, has, at, beyond) (inl one) =
          let own = stands_own b.body (joint x y) x is.cut.right (contained b.body.joints (joint x y) has) (asking_stands (joint x y)) in
          subst (Owns b.body) (port_alone x own h (at ∙ sym one)) own
      of_joint (x, y, has, at, beyond) (inr one) =
          let own = stands_own b.body (joint x y) y is.cut.right (contained b.body.joints (joint x y) has) (serving_stands (joint x y)) in
          subst (Owns b.body) (port_alone y own h (beyond ∙ sym one)) own

  -- the ends of the body at the server's are counted
  pub port_lies_at : (h : ℕ) → lies_at b.cut (port b h) ≡ PartEnd b.own h
  port_lies_at zero = is.result
  port_lies_at (suc h) = is.served h

  port_stands : (h : ℕ) → Owns b.body (port b h) → StandsIn b.body (port b h)
  port_stands zero stands = stands
  port_stands (suc h) stands = stands

  port_free : (h : ℕ) → (h ≡ run_of b.server → ⊥) → places_of b.body (port b h) ≡ None → places_of r (PartEnd b.own h) ≡ None
  port_free h apart none = by_place (places_of r (PartEnd b.own h)) refl
    where
      by_place : (o : Option End) → places_of r (PartEnd b.own h) ≡ o → o ≡ None
      by_place None at = refl
      by_place (Some a) at = absurd (port_unjoined h none (port_stands h (joined_port h apart a at)))

  free : (x : End) → IsPort b x → places_of b.body x ≡ None → places_of r (lies_at b.cut x) ≡ None
  free x (h, apart, same) none =
      ap (places_of r) (ap (lies_at b.cut) same ∙ port_lies_at h) ∙ port_free h apart (ap (places_of b.body) (sym same) ∙ none)

  alone : (e x : End) → HeldBy (IsPort b) b.body e → IsPort b x → lies_at b.cut e ≡ lies_at b.cut x → e ≡ x
  alone e x (inl own) (h, apart, same) at = port_alone e own h (at ∙ (ap (lies_at b.cut) same ∙ port_lies_at h)) ∙ sym same
  alone e x (inr (k, beside, also)) (h, apart, same) at =
      let ends : PartEnd b.own k ≡ PartEnd b.own h =
      sym (port_lies_at k) ∙ (ap (lies_at b.cut) (sym also) ∙ (at ∙ (ap (lies_at b.cut) same ∙ port_lies_at h))) in
      let shake : k ≡ h = cc ends in
      also ∙ (ap (port b) shake ∙ sym same)

  -- the body hangs on the server's first end
  pub hung_body : IsHung (IsPort b) b.own 0 (bits r.outcome) b.cut r b.body
  hung_body =
      record {
        cut = is.cut;
        outside = is.outside;
        result = is.result;
        counted = (0, (λ e. omega (arith, e)), refl);
        alone = alone;
        free = free;
        there = result_there;
      }
