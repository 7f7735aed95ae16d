use Rattle.std.proofs.Common.{◌≡◌, ◌<◌, ℕ, Bool, Some, length, map, slice_get}
use Rattle.flat_graph.specs.Inner.Leaders.{is_leading}
use Rattle.flat_graph.specs.Inner.Points.{points_of}
use Rattle.flat_graph.specs.declared.graph.NodeBody.{NodeBody}
use Rattle.flat_graph.specs.declared.points.ProgramPoint.{ProgramPoint}
use Rattle.flat_graph.proofs.task_graph.stored_nodes.Given as goal

abbrev pub invariant-loop-place : goal.invariant-loop-place
invariant-loop-place l = record {
  count : length l.stored_nodes.items ≡ l.place;
  stored_nodes : (k : ℕ) (s : ProgramPoint) (x : NodeBody) (b : Bool) → k < l.place
      → slice_get (points_of l.ordered.points.items) k ≡ Some s
      → slice_get l.bodies k ≡ Some x → slice_get (map is_leading l.marks) k ≡ Some b →
      slice_get l.stored_nodes.items k
      ≡ Some (record {
        context = s.context;
        address = s.address;
        ins = x.ins;
        next = x.next;
        leader = b;
      });
}
