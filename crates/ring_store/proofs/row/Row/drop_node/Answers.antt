use Rattle.std.proofs.Common.{not, nat_eq, rules, sym, subst}
use Rattle.std.proofs.lemmas.Fn.{filter_same}
use Rattle.store_maps.specs.declared.key_map.KeyMap.{KeyMap}
use Rattle.ring_store.specs.Seats.{AreInOrder}
use Rattle.ring_store.specs.declared.seat.Seat.{Seat}
use Rattle.ring_store.proofs.Rows.{order_kept, none_kept, other_kept}
use Rattle.ring_store.proofs.row.Row.drop_node.Goals as goal

pub invariant_of-self : goal.invariant_of-self
invariant_of-self c = record { order = subst AreInOrder (sym (filter_same _ (λ (e : Seat × KeyMap). not (nat_eq e.0.node.0 c.args.node.0)) _ (λ x b f h. search rules) _ _ c.retain.ensures.filtered)) (order_kept (λ t. not (nat_eq t.node.0 c.args.node.0)) c.args.self.now.maps.items c.args.self.now.order) }

pub returns-clause-gone : goal.returns-clause-gone
returns-clause-gone c t e = rw (filter_same _ (λ (e : Seat × KeyMap). not (nat_eq e.0.node.0 c.args.node.0)) _ (λ x b f h. search rules) _ _ c.retain.ensures.filtered) (none_kept c.args.node.0 c.args.self.now.maps.items t e)

pub returns-clause-others : goal.returns-clause-others
returns-clause-others c t ne = rw (filter_same _ (λ (e : Seat × KeyMap). not (nat_eq e.0.node.0 c.args.node.0)) _ (λ x b f h. search rules) _ _ c.retain.ensures.filtered) (other_kept c.args.node.0 c.args.self.now.maps.items t ne)
