mod DeviceLists
mod KeySets
