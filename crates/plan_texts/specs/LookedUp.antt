-- What is looked up of a plan before a text of it is pushed.
use Rattle.std.specs.Prelude.{◌≡◌}
use Rattle.rollout_rules.specs.Wan.{Problem, Plan, Rollout}
use Rattle.wan_text.specs.Named.{AreNamesOf}
use Rattle.plan_texts.specs.Rows.{link_rows, table_rows}
use Rattle.plan_texts.specs.declared.load_rows.LoadRows.{LoadRows}
use Rattle.plan_texts.specs.declared.lookup.Lookup.{Lookup}

-- the names, and by stage what is taken of each link and each table, there and at most in the step from there on
pub record AreLoadsIn (rows : LoadRows) (p : Problem) (plan : Plan) : Type 0 where
  pub names : AreNamesOf rows.names p
  pub link_taken : rows.links.taken ≡ link_rows p plan 0
  pub link_most : rows.links.most ≡ link_rows p plan 1
  pub table_taken : rows.tables.taken ≡ table_rows p plan 0
  pub table_most : rows.tables.most ≡ table_rows p plan 1

abbrev pub AreLoadsOf : LoadRows → Rollout → Type 0
AreLoadsOf rows o = AreLoadsIn rows o.problem o.plan

-- the names, the items by number, and the chains, of a rollout
pub record IsLookupOf (lookup : Lookup) (o : Rollout) : Type 0 where
  pub names : AreNamesOf lookup.names o.problem
  pub index : lookup.index ≡ o
  pub chains : lookup.chains ≡ o
