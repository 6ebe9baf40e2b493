-- The labels of a port's pulses, as elements at its ends: its requests, and its answers.
use Rattle.std.proofs.Common.{◌≡◌, ℕ, zero, suc, ◌+◌, Bool, true, false, not, List, [], ◌∷◌, ◌++◌, map, filter, Some, slice_get, refl, sym, ◌∙◌, ap, arith, nat_eq, if◌then◌else◌}
use Rattle.gos_types.specs.Types.{Type', Com, Exp, Var, Pair, Fun, IsGround}
use Rattle.gos_types.specs.Events.{events}
use Rattle.gos_netlist.specs.Settling.{Numbers, at}
use Rattle.gos_model.specs.Labels.{Port, Label, is_answer}
use Rattle.gos_pace.specs.Flattening.{if_pulse, pulses_from}
use Rattle.gos_model.specs.Protocol.{shake_of}
use Rattle.gos_plan.specs.Kinds.{Contact, contacts_of}
use Rattle.gos_plan.specs.Plans.{End}
use Rattle.gos_types.specs.Widths.{HasWidths}
use Rattle.gos_plan.specs.Tokens.{Element}
use Rattle.gos_expand.specs.Blocks.{Nets, nets_from, nets_on, total}
use Rattle.gos_expand.specs.Starts.{shake_size, ends_at}
use Rattle.gos_expand.specs.Laid.{request_nets, answer_nets}
use Rattle.gos_expand.specs.Facts.{number_by, elements}

abbrev label : Port → ℕ → ℕ → Label
label port n x = record { port = port; event = n; value = x }

drop_label : (keep : Label → Bool) (on : ℕ) (l : Label) (rest : List Label) → keep l ≡ false → filter keep (if_pulse on l ++ rest) ≡ filter keep rest
drop_label keep on l rest out = by_pulse (nat_eq on 1)
  where
    by_pulse : (b : Bool) → filter keep ((if b then l ∷ [] else []) ++ rest) ≡ filter keep rest
    by_pulse true = rw out refl
    by_pulse false = refl

keep_label : (keep : Label → Bool) (f : Label → Element) (make : End → ℕ → Element) (v : Numbers) (bits : End → ℕ) (nets : End → Nets)
    (e : End) (w b x : ℕ) (l : Label) (rest : List Label)
    → keep l ≡ true → f l ≡ make e x → bits e ≡ w → nets e ≡ nets_from w b → x ≡ number_by v w (nets_from w b)
    → map f (filter keep (if_pulse (at v b) l ++ rest))
    ≡ (if nat_eq (at v (nets e).pulse) 1 then make e (number_by v (bits e) (nets e)) ∷ map f (filter keep rest) else map f (filter keep rest))
keep_label keep f make v bits nets e w b x l rest kept made width are value =
    by_pulse (nat_eq (at v b) 1)
    ∙ (λ i. if nat_eq (at v (pulse i)) 1 then made_so i ∷ map f (filter keep rest) else map f (filter keep rest))
  where
    pulse_from : (w : ℕ) → b ≡ (nets_from w b).pulse
    pulse_from zero = refl
    pulse_from (suc w) = refl

    pulse : b ≡ (nets e).pulse
    pulse = pulse_from w ∙ ap (λ (n : Nets). n.pulse) (sym are)

    made_so : f l ≡ make e (number_by v (bits e) (nets e))
    made_so = made ∙ (ap (make e) value ∙ (λ i. make e (number_by v (sym width i) (sym are i))))

    by_pulse : (on : Bool) → map f (filter keep ((if on then l ∷ [] else []) ++ rest)) ≡ (if on then f l ∷ map f (filter keep rest) else map f (filter keep rest))
    by_pulse true = rw kept refl
    by_pulse false = refl

-- what is known of a port's labels and ends
pub record Names (keep : Label → Bool) (f : Label → Element) (make : End → ℕ → Element) (port : Port) (end : ℕ → End) (which : ℕ → Bool) : Type 0 where
  pub kept : (m x : ℕ) → keep (record { port = port; event = m; value = x }) ≡ which m
  pub made : (m x : ℕ) → f (record { port = port; event = m; value = x }) ≡ make (end (shake_of m)) x

-- the answers of a port
pub answers : (keep : Label → Bool) (f : Label → Element) (make : End → ℕ → Element) (port : Port) (end : ℕ → End) (v : Numbers) (bits : End → ℕ) (nets : End → Nets)
    (s : ℕ) (t : Type')
    → Names keep f make port end is_answer → IsGround t → HasWidths t
    → ((h : ℕ) (c : Contact) → slice_get (contacts_of t) h ≡ Some c → (bits (end h) ≡ c.answer_bits) × (nets (end h) ≡ answer_nets s (contacts_of t) h))
    → map f (filter keep (pulses_from port 0 (events t) (nets_on s (total shake_size 0 (contacts_of t))) v)) ≡ elements make v bits nets (ends_at end 0 (contacts_of t))
answers keep f make port end v bits nets s Com names ground widths are =
    let first : s + 0 + 1 ≡ s + 1 = omega arith in
    let here = are 0 _ refl in
    ap (map f) (drop_label keep (at v s) (label port 0 0) _ (names.kept 0 0))
    ∙ keep_label keep f make v bits nets (end 0) 0 (s + 1) 0 (label port 1 0) [] (names.kept 1 0) (names.made 1 0) here.0
    (here.1 ∙ ap (nets_from 0) first) refl
answers keep f make port end v bits nets s (Exp zero) names ground widths are = absurd (let some = widths.0 in omega (arith, some))
answers keep f make port end v bits nets s (Exp (suc w)) names ground widths are =
    let first : s + 0 + 1 ≡ s + 1 = omega arith in
    let here = are 0 _ refl in
    ap (map f) (drop_label keep (at v s) (label port 0 0) _ (names.kept 0 0))
    ∙ keep_label keep f make v bits nets (end 0) (suc w) (s + 1) (at v (s + 1 + 1)) (label port 1 (at v (s + 1 + 1))) [] (names.kept 1 (at v (s + 1 + 1)))
    (names.made 1 (at v (s + 1 + 1))) here.0 (here.1 ∙ ap (nets_from (suc w)) first) refl
answers keep f make port end v bits nets s (Var zero) names ground widths are = absurd (let some = widths.0 in omega (arith, some))
answers keep f make port end v bits nets s (Var (suc w)) names ground widths are =
    let first : s + 0 + 1 ≡ s + 1 = omega arith in
    let last : s + 3 + 2 ≡ s + 1 + 1 + 1 + 1 + 1 = omega arith in
    let here = are 0 _ refl in
    let there = are 1 _ refl in
    ap (map f) (drop_label keep (at v s) (label port 0 0) _ (names.kept 0 0))
    ∙ (keep_label keep f make v bits nets (end 0) (suc w) (s + 1) (at v (s + 1 + 1)) (label port 1 (at v (s + 1 + 1))) _ (names.kept 1 (at v (s + 1 + 1)))
    (names.made 1 (at v (s + 1 + 1))) here.0 (here.1 ∙ ap (nets_from (suc w)) first) refl
    ∙ ap (λ (l : List Element). if nat_eq (at v (nets (end 0)).pulse) 1 then make (end 0) (number_by v (bits (end 0)) (nets (end 0))) ∷ l else l)
    (ap (map f) (drop_label keep (at v (s + 1 + 1 + 1)) (label port 2 (at v (s + 1 + 1 + 1 + 1))) _ (names.kept 2 (at v (s + 1 + 1 + 1 + 1))))
    ∙ keep_label keep f make v bits nets (end 1) 0 (s + 1 + 1 + 1 + 1 + 1) 0 (label port 3 0) [] (names.kept 3 0) (names.made 3 0) there.0
    (there.1 ∙ ap (nets_from 0) last) refl))
answers keep f make port end v bits nets s (Pair a b) names ground widths are = absurd ground
answers keep f make port end v bits nets s (Fun a b) names ground widths are = absurd ground

-- the requests of a port
pub requests : (keep : Label → Bool) (f : Label → Element) (make : End → ℕ → Element) (port : Port) (end : ℕ → End) (v : Numbers) (bits : End → ℕ) (nets : End → Nets)
    (s : ℕ) (t : Type')
    → Names keep f make port end (λ m. not (is_answer m)) → IsGround t → HasWidths t
    → ((h : ℕ) (c : Contact) → slice_get (contacts_of t) h ≡ Some c → (bits (end h) ≡ c.ask_bits) × (nets (end h) ≡ request_nets s (contacts_of t) h))
    → map f (filter keep (pulses_from port 0 (events t) (nets_on s (total shake_size 0 (contacts_of t))) v)) ≡ elements make v bits nets (ends_at end 0 (contacts_of t))
requests keep f make port end v bits nets s Com names ground widths are =
    let first : s + 0 ≡ s = omega arith in
    let here = are 0 _ refl in
    keep_label keep f make v bits nets (end 0) 0 s 0 (label port 0 0) _ (names.kept 0 0) (names.made 0 0) here.0 (here.1 ∙ ap (nets_from 0) first) refl
    ∙ ap (λ (l : List Element). if nat_eq (at v (nets (end 0)).pulse) 1 then make (end 0) (number_by v (bits (end 0)) (nets (end 0))) ∷ l else l)
    (ap (map f) (drop_label keep (at v (s + 1)) (label port 1 0) [] (names.kept 1 0)))
requests keep f make port end v bits nets s (Exp zero) names ground widths are = absurd (let some = widths.0 in omega (arith, some))
requests keep f make port end v bits nets s (Exp (suc w)) names ground widths are =
    let first : s + 0 ≡ s = omega arith in
    let here = are 0 _ refl in
    keep_label keep f make v bits nets (end 0) 0 s 0 (label port 0 0) _ (names.kept 0 0) (names.made 0 0) here.0 (here.1 ∙ ap (nets_from 0) first) refl
    ∙ ap (λ (l : List Element). if nat_eq (at v (nets (end 0)).pulse) 1 then make (end 0) (number_by v (bits (end 0)) (nets (end 0))) ∷ l else l)
    (ap (map f) (drop_label keep (at v (s + 1)) (label port 1 (at v (s + 1 + 1))) [] (names.kept 1 (at v (s + 1 + 1)))))
requests keep f make port end v bits nets s (Var zero) names ground widths are = absurd (let some = widths.0 in omega (arith, some))
requests keep f make port end v bits nets s (Var (suc w)) names ground widths are =
    let first : s + 0 ≡ s = omega arith in
    let second : s + 3 ≡ s + 1 + 1 + 1 = omega arith in
    let here = are 0 _ refl in
    let there = are 1 _ refl in
    keep_label keep f make v bits nets (end 0) 0 s 0 (label port 0 0) _ (names.kept 0 0) (names.made 0 0) here.0 (here.1 ∙ ap (nets_from 0) first) refl
    ∙ ap (λ (l : List Element). if nat_eq (at v (nets (end 0)).pulse) 1 then make (end 0) (number_by v (bits (end 0)) (nets (end 0))) ∷ l else l)
    (ap (map f) (drop_label keep (at v (s + 1)) (label port 1 (at v (s + 1 + 1))) _ (names.kept 1 (at v (s + 1 + 1))))
    ∙ (keep_label keep f make v bits nets (end 1) (suc w) (s + 1 + 1 + 1) (at v (s + 1 + 1 + 1 + 1)) (label port 2 (at v (s + 1 + 1 + 1 + 1))) _
    (names.kept 2 (at v (s + 1 + 1 + 1 + 1))) (names.made 2 (at v (s + 1 + 1 + 1 + 1))) there.0 (there.1 ∙ ap (nets_from (suc w)) second) refl
    ∙ ap (λ (l : List Element). if nat_eq (at v (nets (end 1)).pulse) 1 then make (end 1) (number_by v (bits (end 1)) (nets (end 1))) ∷ l else l)
    (ap (map f) (drop_label keep (at v (s + 1 + 1 + 1 + 1 + 1)) (label port 3 0) [] (names.kept 3 0)))))
requests keep f make port end v bits nets s (Pair a b) names ground widths are = absurd ground
requests keep f make port end v bits nets s (Fun a b) names ground widths are = absurd ground
