use Rattle.std.proofs.Common.{◌≡◌, ◌≤◌, ◌<◌, ◌+◌, ◌-◌, ◌∷◌, ◌++◌, [], ℕ, List, inl, inr, length, take, drop, length-drop, length-append, refl, sym, ◌∙◌, ap, subst, arith}
use Rattle.std.specs.List.{flat_map}
use Rattle.gos_lex.specs.Items.{TextAt, Misses}
use Rattle.gos_lex.proofs.PlaceLemmas.{rest_whole}
use Rattle.gos_lex.specs.ItemTexts.{Passed}
use Rattle.gos_lex.proofs.PassedLemmas.{passed_as, passed_both}
use Rattle.gos_lex.specs.declared.table.NameTable.{NameTable}
use Rattle.gos_verilog.specs.declared.fault.VFault.{VFault}
use Rattle.gos_verilog.specs.inner.Stages.{BreaksAt}
use Rattle.gos_verilog.specs.inner.Faces.{Face', AreKnown, AreNewFaces, IsFreeFace, IsFreePort, IsNewFace, HasMore, NoFace, port_text}
use Rattle.gos_verilog.proofs.WordLemmas.{shift_passed, shift_misses}
use Rattle.gos_verilog.proofs.FaceLemmas.{new_face, new_more, new_port_misses, ports_snoc}
use Rattle.gos_verilog.proofs.judged.further_ports.Goals as goal

-- the ports so far
abbrev SoFar : Face' → List Face' → List ℕ → ℕ → ℕ → Type 0
SoFar first faces text from at =
    (more : List Face') × (faces ≡ first ∷ more) × AreNewFaces (first ∷ []) more × Passed (record { text = text; at = from }) (record { text = text; at = at }) (flat_map port_text more)

rest_size : (text : List ℕ) (at : ℕ) → at ≤ length text → at + length (take (length text - at) (drop at text)) ≡ length text
rest_size text at within = omega (arith, ap length (rest_whole text at) ∙ length-drop at text, within)

one_more : (first v : Face') (faces longer : List Face') (places : NameTable) (text : List ℕ) (from at len : ℕ) → at ≤ length text → longer ≡ faces ++ v ∷ [] → AreKnown faces places → IsFreeFace places v
    → Passed (record { text = take (length text - at) (drop at text); at = 0 }) (record { text = take (length text - at) (drop at text); at = len }) (port_text v) → SoFar first faces text from at → SoFar first longer text from (at + len)
one_more first v faces longer places text from at len within is known free passed (more, same, new, far) =
    let rest : List ℕ = take (length text - at) (drop at text) in
    let here = shift_passed text rest at len (port_text v) (rest_whole text at) (rest_size text at within) passed in
    let start : TextAt = record { text = text; at = from } in
    let last : TextAt = record { text = text; at = at + len } in
    let whole = passed_both start (record { text = text; at = at }) last (flat_map port_text more) (port_text v) far here in (
      more ++ v ∷ [],
      is ∙ ap (λ (list : List Face'). list ++ v ∷ []) same,
      new_more (first ∷ []) more (more ++ v ∷ []) v refl new (subst (λ (list : List Face'). IsNewFace list v) same (new_face places faces v known free)),
      passed_as start last (flat_map port_text more ++ port_text v) (flat_map port_text (more ++ v ∷ [])) (sym (ports_snoc more v)) whole,
    )

none_here : (faces : List Face') (places : NameTable) (text : List ℕ) (at place : ℕ) → at ≤ length text → AreKnown faces places → length faces < 4294967295
    → Misses (IsFreePort places) (take (length text - at) (drop at text)) 0 place → NoFace faces text at (at + place)
none_here faces places text at place within known room misses =
    inr (
      room,
      new_port_misses places faces text at (at + place) known
          (shift_misses (IsFreePort places) text (take (length text - at) (drop at text)) at place (rest_whole text at) (rest_size text at within) misses),
    )

pub loop-preserved : goal.loop-preserved
loop-preserved c =
    let text = c.args.text.now in
    let at = c.loop.at in
    let faces = c.loop.faces.items in
    let v = c.in-Ok.face in
    let longer = c.in_ok-add-in-Ok.ensures.faces in
    record {
      within = omega (arith, rest_size text at c.loop.invariant.within, c.in-Ok.ensures.within);
      count = ap length longer ∙ (length-append faces (v ∷ []) ∙ ap (λ (n : ℕ). n + 1) c.loop.invariant.count);
      known = c.in_ok-add-in-Ok.ensures.known c.loop.invariant.known;
      more = one_more c.args.first v faces c.add-in-Ok.new.faces.items c.loop.places text c.args.at at c.in-Ok.len c.loop.invariant.within longer c.loop.invariant.known c.in-Ok.ensures.face c.in-Ok.ensures.passed c.loop.invariant.more;
    }

has_more : (first : Face') (faces : List Face') (text : List ℕ) (from at stopped : ℕ) → at ≤ length text → length faces ≤ 4294967295 → SoFar first faces text from at → NoFace faces text at stopped → HasMore first text from at stopped
has_more first faces text from at stopped within few (more, same, new, far) none =
    record {
      more = more;
      new = new;
      few = subst (λ (list : List Face'). length list ≤ 4294967295) same few;
      within = within;
      passed = far;
      none = subst (λ (list : List Face'). NoFace list text at stopped) same none;
    }

pub returns-in-Err-Form-clause-more : goal.returns-in-Err-Form-clause-more
returns-in-Err-Form-clause-more c =
    let text = c.args.text.now in
    let at = c.loop.at in
    let faces = c.loop.faces.items in
    let rest : List ℕ = take (length text - at) (drop at text) in
    let wrong = subst (λ (f : VFault). BreaksAt (IsFreePort c.loop.places) (record { text = rest; at = 0 }) f) c.in-Err-Form.field-0-is c.in-Err-Form.ensures.wrong in
    let room : length faces < 4294967295 = omega (arith, c.loop.invariant.count, c.loop-test.true) in
    subst (λ (n : ℕ). HasMore c.args.first text c.args.at at (at + n)) (sym c.in-Err-Form.place-is)
    (has_more c.args.first faces text c.args.at at (at + c.in-Err-Form.place) c.loop.invariant.within (omega (arith, room)) c.loop.invariant.more
    (none_here faces c.loop.places text at c.in-Err-Form.place c.loop.invariant.within c.loop.invariant.known room wrong))

pub returns-clause-more : goal.returns-clause-more
returns-clause-more c =
    let text = c.args.text.now in
    let at = c.loop.at in
    let full : length c.loop.faces.items ≡ 4294967295 = omega (arith, c.loop.invariant.count, c.loop-test.false, c.loop.auto.counter-end) in
    has_more c.args.first c.loop.faces.items text c.args.at at at c.loop.invariant.within (omega (arith, full)) c.loop.invariant.more (inl (full, refl))
