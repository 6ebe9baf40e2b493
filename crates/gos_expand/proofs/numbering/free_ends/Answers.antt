use Rattle.std.proofs.Common.{Vec, Global, ◌∷◌, [], ◌≡◌, ◌∙◌, ℕ, List, map, get_or, sym, ap, arith}
use Rattle.std.specs.Prelude.{filter}
use Rattle.std.proofs.lemmas.Option.{slice_get-get_or}
use Rattle.std.proofs.lemmas.List.{length-append}
use Rattle.gos_plan.specs.declared.plan.End as declared
use Rattle.gos_plan.specs.declared.plan.End.TheVariants as ends
use Rattle.gos_plan.specs.Plans.{End, is_free}
use Rattle.gos_plan.specs.Seen.{end_of}
use Rattle.gos_expand.specs.Starts.{joints_start}
use Rattle.gos_expand.specs.inner.Arrivals.{joined_start}
use Rattle.gos_expand.proofs.BlockLemmas.{there_mapped}
use Rattle.gos_expand.proofs.NumberLemmas.{free_of_joints, all_mapped}
use Rattle.gos_expand.proofs.PlaceLemmas.{one_exists, tested_in, tested_out}
use Rattle.gos_expand.proofs.numbering.free_ends.Goals.{then-is_loose+in_ok-push, else-is_loose}
use Rattle.gos_expand.proofs.numbering.free_ends.Goals as goal

pub loop-end-preserved : goal.loop-end-preserved
loop-end-preserved c =
    let i : ℕ = c.loop-end.end-index in
    let ds : List End = map end_of c.args.ends.now in
    let end : declared.End = get_or c.args.ends.now i (ends.Part 0 0) in
    let there = there_mapped end_of i c.args.ends.now end (slice_get-get_or c.args.ends.now i (ends.Part 0 0) c.loop-end-test.true) in
    let low = c.loop-end.invariant.1 in (
      (λ lay p are exist.
          let test : c.is_loose.result ≡ is_free (end_of end) p.joints =
          c.is_loose.ensures p (joined_start lay p) are (one_exists p ds i (end_of end) exist there) ∙ free_of_joints lay p 0 (joints_start p) p.joints (end_of end) in
          let so_far = c.loop-end.invariant.0 lay p are exist in
          elim c.if-is_loose.branch [
            | then-is_loose+in_ok-push w ↦ tested_in (λ e. is_free e p.joints) i ds end c.loop-end.free.items c.if-is_loose.free.items there (sym test ∙ w.if-is_loose.true) so_far (ap (λ (v : Vec declared.End Global). v.items) w.free-is ∙ w.in_ok-push.ensures.items)
            | else-is_loose w ↦ ap (λ (v : Vec declared.End Global). map end_of v.items) w.free-is ∙ tested_out (λ e. is_free e p.joints) i ds end c.loop-end.free.items there (sym test ∙ w.if-is_loose.false) so_far
          ]),
      elim c.if-is_loose.branch [
        | then-is_loose+in_ok-push w ↦ (
            let more = length-append c.loop-end.free.items (end ∷ []) in
            rw (w.free-is, w.in_ok-push.ensures.items) (omega (arith, more, low)))
        | else-is_loose w ↦ rw w.free-is (omega (arith, low))
      ],
    )

pub returns-clause-free : goal.returns-clause-free
returns-clause-free c = λ lay p are exist.
    c.loop-end.invariant.0 lay p are exist
    ∙ ap (filter (λ e. is_free e p.joints)) (all_mapped end_of c.loop-end.end-index c.args.ends.now c.loop-end-test.false)
