-- What stands under the lock beside the history.
pub use Rattle.ring_core.specs.declared.world.World.{World}
