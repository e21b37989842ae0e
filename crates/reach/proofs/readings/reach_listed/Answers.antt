-- From clear marks the probes are marked, and the marks moved on to the stops over the frames that make marked wires.
use mathlib.Core.Path.{ap, ◌∙◌}
use native.Mathlib.Omega.{arith}
use lib.ListN.{length, length-replicate}
use Rattle.reach.specs.Internal.Marks.{mark_all}
use Rattle.reach.proofs.Showing.{marked_probes, unmarked_from}
use Rattle.reach.proofs.Propagating.{reached}
use Rattle.reach.proofs.readings.reach_listed.Goals as goal

pub mark-requires : goal.mark-requires
mark-requires g c = let r = c.requires.0 in λ x i. omega (arith, r.made x i, r.room)

pub list_frames-count-requires : goal.list_frames-count-requires
list_frames-count-requires g c = let (r, room, _) = c.requires in (r.accepted, c.marks_end-end.ensures.1 _ r.made, simp length-replicate room)

pub returns : goal.returns
returns g c =
    let r = c.requires.0 in
    let n = length c.args.marks.now in
    let on = c.mark.ensures ∙ ap (λ m. mark_all m c.args.probes.now) r.clear in
    let before : _ = marked_probes n c.args.probes.now on (λ x i. omega (arith, r.made x i, r.room)) in
    let behind : _ = unmarked_from n c.args.probes.now on c.marks_end-end.ensures.0 in
    reached c.list_frames-count.ensures.0 before r.made (omega (arith, r.room, c.mark.auto.marks))
    (λ x above below. behind x (omega (arith, c.list_frames-count.ensures.1)) below) c.propagate_frames.ensures
