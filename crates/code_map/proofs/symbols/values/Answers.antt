use Rattle.std.proofs.Common.{◌≡◌, ℕ, List, length, subst, Some, arith, rules}
use Rattle.std.specs.Map.{update}
use Rattle.std.specs.Str.{bytes_eq}
use Rattle.std.proofs.lemmas.List.{drop_all}
use Rattle.std.proofs.lemmas.Map.Text.{btree_map_updates_str}
use Rattle.code_map.specs.Values.{value_of}
use Rattle.code_map.proofs.Valued.{at_name, put}
use Rattle.code_map.proofs.symbols.values.Goals as goal

pub loop-i-init : goal.loop-i-init
unfolding value_of
loop-i-init c = λ name.
    rw (drop_all (length c.args.symbols.now) c.args.symbols.now (omega arith)) (search rules)

pub loop-i-preserved : goal.loop-i-preserved
loop-i-preserved c =
    let m = c.loop-i.values in
    let s = c.index-symbols-i.result in
    let n = c.insert.new.self in
    put c.args.symbols.now c.loop-i.i s m n (omega arith) (omega arith) c.index-symbols-i.is
    c.loop-i.invariant
    (subst (λ (b : List ℕ). (name : List ℕ)
    → at_name n name ≡ update bytes_eq (at_name m) b (Some s.value) name) c.as_slice.ensures
    (btree_map_updates_str c.as_slice.result.now m n (Some s.value) c.in_ok-insert.ensures.updates))
