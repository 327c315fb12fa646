mod PoolAgain
mod Reading
mod Sound
mod VolumeAgain
