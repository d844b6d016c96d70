-- What each seat knows of the history.
use Rattle.std.specs.Prelude.{◌≡◌, ◌≢◌, ℕ, ◌+◌, ◌<◌, List, ◌∷◌, ◌++◌, length, All, cond, nat_lt}
use Rattle.turn_lock.specs.declared.view.View.{View}
use Rattle.turn_lock.specs.declared.view.Stage.{Stage}
use Rattle.turn_lock.specs.declared.view.Stage.TheVariants.{Idle, Waiting, Turning, Joining, Spent}
use Rattle.turn_lock.specs.Tickets.{At, IsLive, IsTurning, lives, total}

-- the seats for which a view speaks: its own, and those that were joined to it
abbrev pub seats : {E : Type 0} → View E → List ℕ
seats v = v.seat ∷ v.joined

-- the longer of two lists
abbrev pub longer : {E : Type 0} → List E → List E → List E
longer xs ys = cond (nat_lt (length xs) (length ys)) ys xs

module _ {E : Type 0} (seat_of : E → ℕ) where
  -- the history begins with what was seen, and past that it has no entry of these seats
  pub record Follows (seats : List ℕ) (seen log : List E) : Type 0 where
    pub past : List E
    pub is : log ≡ seen ++ past
    pub none : All (λ e. All (λ k. k ≢ seat_of e) seats) past

  -- the history is this one, and then entries of one seat alone
  pub record GoesOn (seat : ℕ) (taken log : List E) : Type 0 where
    pub past : List E
    pub is : log ≡ taken ++ past
    pub own : All (λ e. seat_of e ≡ seat) past

  -- what was seen has all that either of two joined passes had seen, and past that no entry of its seats; one seat less is out
  abbrev pub Meets : Stage E → List E → ℕ → Type 0
  Meets (Joining a x b y n) seen out = Follows a x seen × Follows b y seen × (out + 1 ≡ n)
  Meets Idle seen out = Unit {0}
  Meets (Waiting t) seen out = Unit {0}
  Meets (Turning t) seen out = Unit {0}
  Meets Spent seen out = Unit {0}

  pub record Known (log : List E) (views : List (View E)) : Type 0 where
    -- every entry's seat was made
    pub made : All (λ e. seat_of e < length views) log
    -- a seat's number is its place among the views
    pub numbered : (seat : ℕ) (v : View E) → At views seat v → IsLive v.stage → v.seat ≡ seat
    -- the history begins with what each live seat has seen, and past that has no entry of a seat for which it speaks
    pub follows : (seat : ℕ) (v : View E) → At views seat v → IsLive v.stage → Follows (seats v) v.seen log
    -- no seat that was joined is live, and all were made
    pub apart : (i j : ℕ) (v w : View E) → At views i v → IsLive v.stage → At views j w → IsLive w.stage → All (λ k. k ≢ i) w.joined
    pub joined_made : (seat : ℕ) (v : View E) → At views seat v → IsLive v.stage → All (λ k. k < length views) v.joined
    -- seat 0 is live, and counts the seats that were made, and those other than its own that are live
    pub first : (v : View E) → At views 0 v → IsLive v.stage × (v.given ≡ length views) × (v.out + 1 ≡ total lives views)
    -- some live seat has seen all
    pub whole : (seat : ℕ) × (v : View E) × At views seat v × IsLive v.stage × (v.seen ≡ log)
    -- a seat whose turn it is has seen all
    pub turning : (seat : ℕ) (v : View E) → At views seat v → IsTurning v.stage → v.seen ≡ log
    pub meets : (seat : ℕ) (v : View E) → At views seat v → Meets v.stage v.seen v.out
