-- `assess` meets its contract: each return says what comes of the closure.
use mathlib.Core.Path.{sym, ◌∙◌}
use native.Mathlib.Omega.{arith}
use Rattle.std.proofs.Common.{rules}
use Rattle.walk.proofs.Netted.{net_table}
use Rattle.walk.proofs.Closing.{failed_by}
use Rattle.walk.proofs.Assessed.{comes_failed, comes_dear, comes_found, comes_unsettled}
use Rattle.walk.proofs.assess.assess.Goals as goal

pub returns-then-is_none : goal.returns-then-is_none
returns-then-is_none c words P b fine closes rest stores =
    search (rules, comes_failed, net_table, failed_by _ c.is_none.ensures c.if-is_none.true)

pub returns-then-not-undercuts : goal.returns-then-not-undercuts
returns-then-not-undercuts c words P b fine closes rest stores = search (
  rules,
  comes_dear,
  net_table,
  failed_by _ c.is_none.ensures c.if-is_none.false,
  sym c.if-not-undercuts.true ∙ c.undercuts.ensures,
)

pub returns-in-Some : goal.returns-in-Some
returns-in-Some c words P b fine closes rest stores =
    comes_unsettled _ (net_table c.args.net.now) P fine _ _ closes rest c.args.best c.args.find.now b stores
    (failed_by _ c.is_none.ensures c.if-is_none.false) _ c.struck_price-price.ensures
    (sym c.if-not-undercuts.false ∙ c.undercuts.ensures) _ (sym c.in-Some.is ∙ c.lowest_unsettled.ensures)

pub write_list-requires : goal.write_list-requires
write_list-requires c = let few = (net_table c.args.net.now).few_steps in omega arith

pub returns : goal.returns
returns c words P b fine closes rest stores =
    comes_found _ (net_table c.args.net.now) P fine _ _ closes rest c.args.best c.args.find.now b stores
    (failed_by _ c.is_none.ensures c.if-is_none.false) _ c.struck_price-price.ensures
    (sym c.if-not-undercuts.false ∙ c.undercuts.ensures) (sym c.in_default.is ∙ c.lowest_unsettled.ensures) _
    c.write_list.ensures
