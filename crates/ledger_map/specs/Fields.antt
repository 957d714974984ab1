-- What the fields of `Ledgers` stand for.
use Rattle.std.specs.Prelude.{◌-◌, ◌≤◌, length}
use Rattle.ledger_map.specs.LedgerState.{LedgerState, AreLawfulLedgers}
use Rattle.ledger_map.specs.declared.ledgers.Ledgers.TheInside.{Inside}

-- a ledger that isn't there yet fits without memory where the vector has a place left
abbrev pub ledger_state : Inside → LedgerState
ledger_state fields = record {
  size = fields.size;
  owner = fields.owner;
  ledgers = fields.ledgers.items;
  spare = fields.ledgers.capacity - length fields.ledgers.items;
}

-- the state is lawful, and the vector holds no more than it can
pub record AreSoundLedgers (fields : Inside) : Type 0 where
  pub lawful : AreLawfulLedgers (ledger_state fields)
  pub within : length fields.ledgers.items ≤ fields.ledgers.capacity
