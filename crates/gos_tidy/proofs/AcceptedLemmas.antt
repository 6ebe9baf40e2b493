-- A netlist that is reduced from an accepted one is accepted.
--
-- Read first: Reduced; QuotientLemmas, PartCellLemmas, PortNetLemmas.
use Rattle.std.proofs.Common.{◌≡◌, ◌⊎◌, inl, inr, ◌<◌, ℕ, zero, suc, Bool, true, false, List, [], ◌∷◌, ◌++◌, length, map, take, slice_get, Some, None, Contains, sym, ap, subst, ◌∙◌, arith}
use Rattle.std.proofs.lemmas.List.{length-map, map-append, take-map}
use Rattle.std.proofs.lemmas.List.Elements.{Contains-append_cases}
use Rattle.std.proofs.lemmas.Option.{slice_get_within}
use Rattle.gos_netlist.specs.Nets.{Function, Input, Const, Cell, NetPort, Netlist}
use Rattle.gos_netlist.specs.Cycles.{HasCycle}
use Rattle.gos_netcheck.specs.CellRules.{WidthsFit}
use Rattle.gos_netcheck.specs.PortRules.{places, IsEnd, FitsAt, AllFit, inputs_of, all_inputs, AreNew, HasSide, IsRightPort, IsLoose, PortsFit}
use Rattle.gos_netcheck.specs.Accepted.{IsAccepted}
use Rattle.gos_tidy.specs.Ends.{with_nets}
use Rattle.gos_tidy.specs.Mapped.{renamed, IsConst, IsKept}
use Rattle.gos_tidy.specs.Reduced.{IsReduced}
use Rattle.gos_tidy.proofs.RenamedLemmas.{renamed_input, renamed_register, from_mapped, to_mapped, one_gate, one_width}
use Rattle.gos_tidy.proofs.QuotientLemmas.{kept_or_const, cell_there, register_kept, input_kept, root_of, quotient_acyclic, quotient_widths}
use Rattle.gos_tidy.proofs.PartCellLemmas.{part_widths, part_acyclic, part_apart}
use Rattle.gos_tidy.proofs.PortNetLemmas.{contained_at, kept_member, flat_member, member_flat, inputs_of_map, all_inputs_map, input_is_net, IsInputNet, input_there, port_beside, net_beside}

module _ (net other : Netlist) (accepted : IsAccepted net) (reduced : IsReduced net other) where
  pub merged_acyclic : HasCycle reduced.merged → ⊥
  merged_acyclic = quotient_acyclic net.cells reduced.merged reduced.merging reduced.roots accepted.acyclic accepted.nets reduced.quotient

  pub merged_widths : WidthsFit reduced.merged
  merged_widths = quotient_widths net.cells reduced.merged reduced.merging reduced.roots accepted.acyclic accepted.nets accepted.widths reduced.quotient

  -- the cell at a port's net is the one that was there before
  pub cell_beside : (b : Bool) (n m : ℕ) (c : Cell) → slice_get net.cells n ≡ Some c → IsEnd b c.gate → m < length other.cells
      → reduced.placing m ≡ reduced.merging n → (e : Cell) × (slice_get other.cells m ≡ Some e) × (e.width ≡ c.width) × IsEnd b e.gate
  cell_beside b n m c there end low same =
      let (e, is) = cell_there other.cells m low in
      let at_merged : slice_get reduced.merged (reduced.merging n) ≡ Some (record { width = e.width; gate = renamed reduced.placing e.gate }) =
      subst (λ (x : ℕ). slice_get reduced.merged x ≡ Some (record { width = e.width; gate = renamed reduced.placing e.gate })) same (reduced.part.kept m e is) in
      let was = end_kept b c end n there in (
        e,
        is,
        one_width reduced.merged (reduced.merging n) (record { width = e.width; gate = renamed reduced.placing e.gate })
            (record { width = c.width; gate = renamed reduced.merging c.gate }) at_merged was,
        end_moved b e.gate c.gate end (one_gate reduced.merged (reduced.merging n) (record { width = e.width; gate = renamed reduced.placing e.gate })
            (record { width = c.width; gate = renamed reduced.merging c.gate }) at_merged was),
      )
    where
      end_kept : (b : Bool) (c : Cell) → IsEnd b c.gate → (n : ℕ) → slice_get net.cells n ≡ Some c
          → slice_get reduced.merged (reduced.merging n) ≡ Some (record { width = c.width; gate = renamed reduced.merging c.gate })
      end_kept true c end n there = input_kept reduced.merged reduced.merging n c end (reduced.quotient.mapped n c there)
      end_kept false c end n there = register_kept reduced.merged reduced.merging n c end (reduced.quotient.mapped n c there)

      end_moved : (b : Bool) (e c : Function) → IsEnd b c → renamed reduced.placing e ≡ renamed reduced.merging c → IsEnd b e
      end_moved true e c end same = renamed_input reduced.placing e (same ∙ ap (renamed reduced.merging) end)
      end_moved false e c (a, end) same =
          let (d, is, to) = renamed_register reduced.placing e (reduced.merging a) (same ∙ ap (renamed reduced.merging) end) in (d, is)

  fits_beside : (o : _) (n m : ℕ) → FitsAt net.cells o n → m < length other.cells → reduced.placing m ≡ reduced.merging n → FitsAt other.cells o m
  fits_beside None n m fit low same = fit
  fits_beside (Some p) n m (c, there, width, end) low same =
      let (e, is, wide, at_end) = cell_beside p.input n m c there end low same in
      (e, is, wide ∙ width, at_end)

  -- nets of ports are there
  pub end_there : (k : ℕ) (q : NetPort) → slice_get other.ports k ≡ Some q → (x : ℕ) → Contains q.nets x → x < length other.cells
  end_there k q is x has = kept_member (λ (n : ℕ). n < length other.cells) q.nets (reduced.ends k q is) x has

  pub inputs_beside : map reduced.placing (all_inputs other.ports) ≡ map reduced.merging (all_inputs net.ports)
  inputs_beside =
      sym (all_inputs_map reduced.placing other.ports) ∙ (ap all_inputs reduced.ports ∙ all_inputs_map reduced.merging net.ports)

  inputs_before : (k : ℕ) → map reduced.placing (all_inputs (take k other.ports)) ≡ map reduced.merging (all_inputs (take k net.ports))
  inputs_before k =
      sym (all_inputs_map reduced.placing (take k other.ports))
      ∙ (ap all_inputs (sym (take-map (with_nets reduced.placing) k other.ports) ∙ (ap (λ ps. take k ps) reduced.ports ∙ take-map (with_nets reduced.merging) k net.ports))
      ∙ all_inputs_map reduced.merging (take k net.ports))

  pub all_inputs_there : (x : ℕ) → Contains (all_inputs other.ports) x → x < length other.cells
  all_inputs_there x has =
      let (k, q, is, in_q) = flat_member inputs_of other.ports x has in
      end_there k q is x (input_is_net (places q.side q.ty) q.nets x in_q)

  -- inputs that are new stay so
  new_beside : (before others ns ms : List ℕ) → ((x : ℕ) → Contains others x → IsInputNet net.cells x) → ((x : ℕ) → Contains ms x → IsInputNet net.cells x)
      → map reduced.placing before ≡ map reduced.merging others → map reduced.placing ns ≡ map reduced.merging ms → AreNew others ms → AreNew before ns
  new_beside before others ns ms in_others in_ms same_before same_now new i n is has =
      let (m, at_m, same) = net_beside reduced.merging reduced.placing ns ms same_now i n is in
      let whole : map reduced.placing (before ++ take i ns) ≡ map reduced.merging (others ++ take i ms) =
      map-append reduced.placing before (take i ns)
      ∙ ((λ j. same_before j ++ (sym (take-map reduced.placing i ns) ∙ (ap (λ xs. take i xs) same_now ∙ take-map reduced.merging i ms)) j)
      ∙ sym (map-append reduced.merging others (take i ms))) in
      let (x, member, to) = from_mapped reduced.merging (others ++ take i ms) (reduced.placing n)
      (subst (λ (xs : List ℕ). Contains xs (reduced.placing n)) whole (to_mapped reduced.placing (before ++ take i ns) n has)) in
      let (c, there, input) = in_either x i (Contains-append_cases others (take i ms) x member) in
      let (d, there_too, input_too) = in_ms m (contained_at ms i m at_m) in
      let one : x ≡ m = reduced.quotient.inputs x m c d there there_too input input_too (to ∙ same) in
      new i m at_m (subst (λ (y : ℕ). Contains (others ++ take i ms) y) one member)
    where
      taken : (xs : List ℕ) (i x : ℕ) → Contains (take i xs) x → Contains xs x
      taken [] zero x has = has
      taken [] (suc i) x has = has
      taken (y ∷ xs) zero x (k, l, e) = absurd (omega (arith, l))
      taken (y ∷ xs) (suc i) x (zero, l, e) = (0, omega arith, e)
      taken (y ∷ xs) (suc i) x (suc k, l, e) = let (j, low, is) = taken xs i x (k, omega (arith, l), e) in (suc j, omega (arith, low), is)

      in_either : (x i : ℕ) → Contains others x ⊎ Contains (take i ms) x → IsInputNet net.cells x
      in_either x i (inl has) = in_others x has
      in_either x i (inr has) = in_ms x (taken ms i x has)

  inputs_taken : (k x : ℕ) → Contains (all_inputs (take k net.ports)) x → IsInputNet net.cells x
  inputs_taken k x has =
      let (j, p, is, in_p) = flat_member inputs_of (take k net.ports) x has in
      input_there net.cells net.ports accepted.ports x (member_flat inputs_of net.ports x j p (taken_port net.ports k j p is) in_p)
    where
      taken_port : (ps : List NetPort) (k j : ℕ) (p : NetPort) → slice_get (take k ps) j ≡ Some p → slice_get ps j ≡ Some p
      taken_port [] zero j p is = is
      taken_port [] (suc k) j p is = is
      taken_port (q ∷ ps) zero j p is = absurd (cc is)
      taken_port (q ∷ ps) (suc k) zero p is = is
      taken_port (q ∷ ps) (suc k) (suc j) p is = taken_port ps k j p is

  right_beside : (k : ℕ) (q p : NetPort) → slice_get other.ports k ≡ Some q → slice_get net.ports k ≡ Some p
      → with_nets reduced.placing q ≡ with_nets reduced.merging p → IsRightPort other.cells other.ports k q
  right_beside k q p is_q is_p same =
      let right = accepted.ports.each k p is_p in
      let side : q.side ≡ p.side = ap (λ (x : NetPort). x.side) same in
      let ty : q.ty ≡ p.ty = ap (λ (x : NetPort). x.ty) same in
      let name : q.name ≡ p.name = ap (λ (x : NetPort). x.name) same in
      let nets : map reduced.placing q.nets ≡ map reduced.merging p.nets = ap (λ (x : NetPort). x.nets) same in
      let size : length q.nets ≡ length p.nets =
      sym (length-map q.nets reduced.placing) ∙ (ap length nets ∙ length-map p.nets reduced.merging) in
      let stands : AllFit other.cells (places p.side p.ty) q.nets = (
        size ∙ right.nets.0,
        λ i m is_m.
            let (n, is_n, to) = net_beside reduced.merging reduced.placing q.nets p.nets nets i m is_m in
            fits_beside (slice_get (places p.side p.ty) i) n m (right.nets.1 i n is_n) (reduced.ends k q is_q i m is_m) to,
      ) in
      record {
        side = subst (λ s. HasSide k s q.ty) (sym side) (subst (λ t. HasSide k p.side t) (sym ty) right.side);
        name = λ j r low is_r equal.
            let (o, is_o, beside) = port_beside reduced.merging reduced.placing other.ports net.ports reduced.ports j r is_r in
            right.name j o low is_o (sym (ap (λ (x : NetPort). x.name) beside) ∙ (equal ∙ name));
        nets = subst (λ s. AllFit other.cells (places s q.ty) q.nets) (sym side) (subst (λ t. AllFit other.cells (places p.side t) q.nets) (sym ty) stands);
        inputs = new_beside (all_inputs (take k other.ports)) (all_inputs (take k net.ports)) (inputs_of q) (inputs_of p) (inputs_taken k)
            (λ x has. input_there net.cells net.ports accepted.ports x (member_flat inputs_of net.ports x k p is_p has)) (inputs_before k)
            (sym (inputs_of_map reduced.placing q) ∙ (ap inputs_of same ∙ inputs_of_map reduced.merging p)) right.inputs;
      }

  -- each Input cell stands in a port
  no_loose : (m : ℕ) → IsLoose other.cells (all_inputs other.ports) m → ⊥
  no_loose m (e, is, input, missing) =
      let at_merged = reduced.part.kept m e is in
      let (n, c, to, there, stays) = root_of net.cells reduced.merged reduced.merging reduced.roots reduced.quotient (reduced.placing m)
      (slice_get_within reduced.merged (reduced.placing m) (record { width = e.width; gate = renamed reduced.placing e.gate }) at_merged) in
      let here : slice_get reduced.merged (reduced.merging n) ≡ Some (record { width = e.width; gate = renamed reduced.placing e.gate }) =
      subst (λ (x : ℕ). slice_get reduced.merged x ≡ Some (record { width = e.width; gate = renamed reduced.placing e.gate })) (sym to) at_merged in
      let gate : renamed reduced.placing e.gate ≡ Input = ap (renamed reduced.placing) input in
      accepted.ports.inputs n (
        c,
        there,
        was_input n c gate here (kept_or_const reduced.merged reduced.merging n c stays),
        λ has.
            let (x, member, same) = from_mapped reduced.placing (all_inputs other.ports) (reduced.merging n)
            (subst (λ (xs : List ℕ). Contains xs (reduced.merging n)) (sym inputs_beside) (to_mapped reduced.merging (all_inputs net.ports) n has)) in
            let one : x ≡ m = part_apart other.cells reduced.merged reduced.placing reduced.part x m (all_inputs_there x member) (slice_get_within other.cells m e is) (same ∙ to) in
            missing (subst (λ (y : ℕ). Contains (all_inputs other.ports) y) one member),
      )
    where
      was_input : (n : ℕ) (c : Cell) → renamed reduced.placing e.gate ≡ Input
          → slice_get reduced.merged (reduced.merging n) ≡ Some (record { width = e.width; gate = renamed reduced.placing e.gate })
          → IsKept reduced.merged reduced.merging n c ⊎ ((k : ℕ) × IsConst reduced.merged (reduced.merging n) k) → c.gate ≡ Input
      was_input n c gate here (inl kept) =
          renamed_input reduced.merging c.gate
          (one_gate reduced.merged (reduced.merging n) (record { width = c.width; gate = renamed reduced.merging c.gate })
          (record { width = e.width; gate = renamed reduced.placing e.gate }) kept here ∙ gate)
      was_input n c gate here (inr (k, (w, const))) =
          let never : Const k ≡ Input =
          one_gate reduced.merged (reduced.merging n) (record { width = w; gate = Const k })
          (record { width = e.width; gate = renamed reduced.placing e.gate }) const here ∙ gate in
          absurd (cc never)

  ports_fit : PortsFit other.cells other.ports
  ports_fit =
      let size : length other.ports ≡ length net.ports =
      sym (length-map other.ports (with_nets reduced.placing)) ∙ (ap length reduced.ports ∙ length-map net.ports (with_nets reduced.merging)) in
      record {
        some = let enough = accepted.ports.some in omega (arith, size, enough);
        each = λ k q is.
            let (p, is_p, same) = port_beside reduced.merging reduced.placing other.ports net.ports reduced.ports k q is in
            right_beside k q p is is_p same;
        inputs = no_loose;
      }

  pub reduced_accepted : IsAccepted other
  reduced_accepted =
      record {
        nets = reduced.part.pins;
        widths = part_widths other.cells reduced.merged reduced.placing reduced.part merged_widths;
        ports = ports_fit;
        acyclic = part_acyclic other.cells reduced.merged reduced.placing reduced.part merged_acyclic;
      }
