-- Which calls of an object in memory fail.
use Rattle.std.specs.Prelude.{ℕ, ◌+◌, ◌-◌, ◌^◌, Bool, ◌==◌, nat_lt, List, if◌then◌else◌}
use Rattle.std.specs.List.{list_any}

-- the numbers of the calls that fail, the number of the next call, and how many calls have failed
pub record Turning : Type 0 where
  pub fails : List ℕ
  pub next : ℕ
  pub failures : ℕ

-- before the first call
abbrev pub fresh : List ℕ → Turning
fresh fails = record { fails = fails; next = 0; failures = 0 }

-- whether the next call is one of those that fail
abbrev pub fails_now : Turning → Bool
fails_now turns = list_any (λ number. number == turns.next) turns.fails

-- one more, up to the last value of u64
abbrev pub one_more : ℕ → ℕ
one_more count = if nat_lt count (2 ^ 64 - 1) then count + 1 else count

-- after a call that failed, or did not
abbrev pub after_call : Turning → Bool → Turning
after_call turns failed = record {
  fails = turns.fails;
  next = one_more turns.next;
  failures = if failed then one_more turns.failures else turns.failures;
}
