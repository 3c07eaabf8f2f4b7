-- Past its last record a table has records of zeros.
use Prim.Native.Nat.{ℕ, ◌≤◌}
use mathlib.Core.Path.{◌≡◌}
use lib.ListN.{length, get_or-eq_default}
use Rattle.table.specs.Table.{Table, zero_state, zero_node, state_at, node_at}

module _ (T : Table) where
  pub state_past : (s : ℕ) → length T.states ≤ s → state_at T s ≡ zero_state
  state_past s h = get_or-eq_default T.states zero_state {n = s} h

  pub node_past : (i : ℕ) → length T.nodes ≤ i → node_at T i ≡ zero_node
  node_past i h = get_or-eq_default T.nodes zero_node {n = i} h
